use Rattle.std.proofs.Common.{◌≡◌, ◌∙◌, refl}
use Rattle.cedar_types.specs.declared.base.expressions.literals.Literal.{Literal}
use Rattle.cedar_types.specs.contracts.base.expressions.literals.LiteralPartialEq.TheImpl as derived
use Rattle.cedar_types.specs.Lemmas.Comparisons.{uid_is}
use Rattle.cedar_types.specs.Expressions.TreeEq.{lit_eq}
use Rattle.cedar_types.specs.Expressions.View.{lit_of}
use Rattle.cedar_typing.proofs.typecheck.rules.equality.is_same_literal.Goals as goal

-- the derived `==` of literals is the equality of their views
same : (x y : Literal) → derived.ghosts.eq x y ≡ lit_eq (lit_of x) (lit_of y)
same (Literal.Bool a) (Literal.Bool b) = refl
same (Literal.Long a) (Literal.Long b) = refl
same (Literal.String a) (Literal.String b) = refl
same (Literal.EntityUID a) (Literal.EntityUID b) = uid_is a b
same x y = refl

pub returns : goal.returns
returns c = c.eq.ensures ∙ same c.args.one.now c.args.other.now
