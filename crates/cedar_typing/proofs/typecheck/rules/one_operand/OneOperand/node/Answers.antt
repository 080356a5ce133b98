use Rattle.std.proofs.Common.{◌∙◌, ap}
use Rattle.cedar_typing.specs.TypedExpr.{typed_tree}
use Rattle.cedar_typing.proofs.typecheck.rules.one_operand.OneOperand.node.Goals as goal

pub returns : goal.returns
returns c env prior e = ap typed_tree c.in_ok-typed.ensures ∙ c.in_ok-kind.ensures env prior e c.args.loc c.args.ty
