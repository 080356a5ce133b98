use Rattle.std.proofs.Common.{◌≡◌, subst}
use Rattle.std.specs.Prelude.{IfOk}
use Rattle.cedar_types.specs.Capability.{attribute, cap_of, expr_in}
use Rattle.cedar_types.specs.Names.{text_of}
use Rattle.cedar_types.proofs.Expressions.Marks.{shape-written}
use Rattle.cedar_typing.proofs.typecheck.rules.attributes.attribute_of.Goals as goal

pub returns-clause-of_it : goal.returns-clause-of_it
returns-clause-of_it c =
    subst (λ s. IfOk c.attribute.result (λ k. cap_of k ≡ attribute s (text_of c.args.attr.now)))
    (shape-written (expr_in c.args.base.now)) c.attribute.ensures.of_it
