-- The rules of `!`, negation, `isEmpty`, `like` and `is`.
use Rattle.std.specs.Prelude.{not, List, [], Option, Some, None, is_some, if◌then◌else◌}
use Rattle.cedar_types.specs.declared.base.expressions.operators.UnaryOp.{UnaryOp}
use Rattle.cedar_types.specs.declared.base.expressions.patterns.PatternElem.{PatternElem}
use Rattle.cedar_types.specs.declared.base.types.BoolType.TheVariants.{AnyBool, True, False}
use Rattle.cedar_types.specs.Names.{Path}
use Rattle.cedar_types.specs.Types.{Ty, TNever, TBool, TLong, TEntity, sole}
use Rattle.cedar_types.specs.Expressions.Tree.{unary, like, is_type}
use Rattle.cedar_types.specs.Expressions.View.{Written}
use Rattle.cedar_types.specs.Schemas.{is_among}
use Rattle.cedar_typing.specs.Capabilities.{no_caps}
use Rattle.cedar_typing.specs.Eager.{Decision, gives, refuses, Form, on_one}
use Rattle.cedar_typing.specs.TypeTests.{bool_types, long_types, string_types, set_types, entity_types, is_false, is_true}

-- ---- operators

-- the opposite of True is False, and of False True
abbrev pub not_type : Ty → Ty
not_type s = if is_true s then TBool False else if is_false s then TBool True else TBool AnyBool

abbrev pub not_decides : Option Ty → Decision
not_decides None = gives (TBool AnyBool) no_caps
not_decides (Some s) = gives (not_type s) no_caps

-- `!a` of a Boolean: the opposite of True and of False, else Bool
abbrev pub not_form : Written → Form
not_form m = on_one m (Some bool_types) not_decides (λ k a. unary k UnaryOp.Not a)

-- the negation of a Long: Long
abbrev pub negation_form : Written → Form
negation_form m =
    on_one m (Some long_types) (λ s. gives TLong no_caps) (λ k a. unary k UnaryOp.Neg a)

-- `a.isEmpty()` of a set: Bool
abbrev pub is_empty_form : Written → Form
is_empty_form m =
    on_one m (Some set_types) (λ s. gives (TBool AnyBool) no_caps)
    (λ k a. unary k UnaryOp.IsEmpty a)

abbrev pub unary_form : Written → UnaryOp → Form
unary_form m UnaryOp.Not = not_form m
unary_form m UnaryOp.Neg = negation_form m
unary_form m UnaryOp.IsEmpty = is_empty_form m

-- ---- `like` and `is`

-- `a like p` of a text: Bool
abbrev pub like_form : Written → List PatternElem → Form
like_form m p =
    on_one m (Some string_types) (λ s. gives (TBool AnyBool) no_caps) (λ k a. like k a p)

-- for some entity types: False if n is none of them, True if n is the only one, else Bool
abbrev pub is_type_of : Path → List Path → Ty
is_type_of n ps =
    if not (is_among ps n) then TBool False
    else if is_some (sole ps) then TBool True else TBool AnyBool

-- Never fails without an error; any entity gives Bool
abbrev pub is_decides : Path → Option Ty → Decision
is_decides n (Some TNever) = refuses (Some (TBool AnyBool)) []
is_decides n (Some (TEntity ps)) = gives (is_type_of n ps) no_caps
is_decides n s = gives (TBool AnyBool) no_caps

-- `a is n` of an entity: whether its type is n
abbrev pub is_form : Written → Path → Form
is_form m n = on_one m (Some entity_types) (is_decides n) (λ k a. is_type k a n)
