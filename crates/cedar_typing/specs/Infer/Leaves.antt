-- Inference for expressions without parts.
use Rattle.std.specs.Prelude.{Option, Some, None}
use Rattle.cedar_types.specs.Names.{Path}
use Rattle.cedar_types.specs.Types.{Ty}
use Rattle.cedar_types.specs.Expressions.Tree.{unknown}
use Rattle.cedar_types.specs.Expressions.View.{Written}
use Rattle.cedar_typing.specs.Capabilities.{no_caps}
use Rattle.cedar_typing.specs.Infer.Parts.{Answer, success, failure}
use Rattle.cedar_typing.specs.TypedExpr.{TypedTree, Mark, typed, untyped}

abbrev pub infer_leaf : Option Ty → Written → (Mark → TypedTree) → Answer
infer_leaf None m node = failure (node (untyped m))
infer_leaf (Some t) m node = success (node (typed t m)) no_caps

abbrev pub infer_unknown : Path → Written → Answer
infer_unknown n m = failure (unknown (untyped (record { place = None; names = m.names })) n)
