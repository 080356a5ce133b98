-- Inference for `&&` and `||`.
use Rattle.std.specs.Prelude.{◌&&◌, List, Option, Some, if◌then◌else◌}
use Rattle.cedar_types.specs.declared.base.location.Loc.{Loc}
use Rattle.cedar_types.specs.declared.base.types.BoolType.TheVariants.{AnyBool}
use Rattle.cedar_types.specs.Types.{Ty, TBool}
use Rattle.cedar_types.specs.Expressions.View.{Written}
use Rattle.cedar_types.specs.Errors.{Finding}
use Rattle.cedar_typing.specs.Capabilities.{Caps}
use Rattle.cedar_typing.specs.Infer.Parts.{Answer, failure, Part, AnswerAndErrors, answer_if, expect, after}
use Rattle.cedar_typing.specs.Rules.ShortCircuit.{Connective, sides_type, sides_caps}
use Rattle.cedar_typing.specs.TypeEnv.{TypeEnv}
use Rattle.cedar_typing.specs.TypeTests.{bool_types, annotation_passes}
use Rattle.cedar_typing.specs.TypedExpr.{typed, annotation, at_place}

-- the answer for two typed sides, by the types at their roots
abbrev pub infer_sides : Connective → Written → Part → Part → Option Ty → Option Ty → Answer
infer_sides f m a b (Some s) (Some t) =
    answer_if (a.succeeded && b.succeeded) (f.node (typed (sides_type f s t) m) a.tree b.tree)
    (sides_caps f s t a.capabilities b.capabilities)
infer_sides f m a b s t = failure (f.node (typed (TBool AnyBool) m) a.tree b.tree)

-- the answer for a typed left side, and a right one at l that is still to be typed
abbrev pub infer_right : TypeEnv → Connective → Written → Option Loc → Caps → Part → List Finding
    → (Caps → List Finding → AnswerAndErrors) → AnswerAndErrors
infer_right env f m l prior a es right =
    if annotation_passes f.ends (annotation a.tree)
    then (answer_if a.succeeded (at_place m.place a.tree) (f.ended_caps a.capabilities), es)
    else after (expect env bool_types l (right (f.right_prior prior a.capabilities) es))
    (λ b es'. (infer_sides f m a b (annotation a.tree) (annotation b.tree), es'))
