-- Operators on two operands, with the form of each.
use Rattle.cedar_types.specs.declared.base.expressions.operators.BinaryOp.{BinaryOp}
use Rattle.cedar_types.specs.Expressions.View.{Written}
use Rattle.cedar_typing.specs.Capabilities.{Caps}
use Rattle.cedar_typing.specs.Eager.{Form}
use Rattle.cedar_typing.specs.Rules.Equality.{equality_form, contains_form, contains_several_form}
use Rattle.cedar_typing.specs.Rules.Membership.{in_form}
use Rattle.cedar_typing.specs.Rules.Numbers.{arithmetic_form, comparison_form}
use Rattle.cedar_typing.specs.Rules.Tags.{has_tag_form, get_tag_form}
use Rattle.cedar_typing.specs.TypeEnv.{TypeEnv}
use Rattle.cedar_typing.specs.TypedExpr.{Source, place_of}

-- the form of an operator on a and b, with the prior capabilities
abbrev pub binary_form : TypeEnv → Written → Caps → Source → Source → BinaryOp → Form
binary_form env m prior a b BinaryOp.Eq = equality_form env m a b
binary_form env m prior a b BinaryOp.Less =
    comparison_form env m (place_of a) (place_of b) BinaryOp.Less
binary_form env m prior a b BinaryOp.LessEq =
    comparison_form env m (place_of a) (place_of b) BinaryOp.LessEq
binary_form env m prior a b BinaryOp.Add = arithmetic_form m BinaryOp.Add
binary_form env m prior a b BinaryOp.Sub = arithmetic_form m BinaryOp.Sub
binary_form env m prior a b BinaryOp.Mul = arithmetic_form m BinaryOp.Mul
binary_form env m prior a b BinaryOp.In = in_form env m a b
binary_form env m prior a b BinaryOp.Contains = contains_form env m
binary_form env m prior a b BinaryOp.ContainsAll = contains_several_form env m BinaryOp.ContainsAll
binary_form env m prior a b BinaryOp.ContainsAny = contains_several_form env m BinaryOp.ContainsAny
binary_form env m prior a b BinaryOp.GetTag = get_tag_form env m prior a b
binary_form env m prior a b BinaryOp.HasTag = has_tag_form env m prior a b
