-- The check of an expression where it stands, and its promises about evaluation.
use Rattle.std.specs.Prelude.{List, [], Option, Some, None, IsPermutation}
use Rattle.cedar_types.specs.Types.{Ty}
use Rattle.cedar_types.specs.Errors.{Finding}
use Rattle.cedar_typing.specs.Capabilities.{Caps}
use Rattle.cedar_typing.specs.Evaluation.Conformance.{SlotsBound, AllHold}
use Rattle.cedar_typing.specs.Evaluation.Eval.{eval}
use Rattle.cedar_typing.specs.Evaluation.World.{World}
use Rattle.cedar_typing.specs.Infer.Parts.{Answer, success, failure, limit}
use Rattle.cedar_typing.specs.Rules.{Derives, Recovers, Cuts}
use Rattle.cedar_typing.specs.Setting.{Setting}
use Rattle.cedar_typing.specs.Soundness.{HasFound, IsSafe, IsTrueOutcome, IsReliable, IsWorldOf}
use Rattle.cedar_typing.specs.TypedCopies.{EvaluatesAs}
use Rattle.cedar_typing.specs.TypedExpr.{Source, TypedTree, annotation}

-- the check of an expression, at depth 1 and with the prior capabilities. Each error counts as often as it is found; the
-- order of errors does not count
pub data ExpressionChecks (s : Setting) (e : Source) (prior : Caps) :
    Answer → List Finding → Type 0 where
  -- the expression has a type
  expression_typed : (t : Ty) {c : Caps} {x : TypedTree}
      → Derives s e prior 1 t c x → ExpressionChecks s e prior (success x c) []
  -- the expression has failed, but is typed all the same
  expression_refused : {x : TypedTree} {es es' : List Finding}
      → Recovers s e prior 1 x es → IsPermutation es es' → ExpressionChecks s e prior (failure x) es'
  -- a part is too deep
  expression_cut : {es es' : List Finding}
      → Cuts s e prior 1 es → IsPermutation es es' → ExpressionChecks s e prior limit es'

-- the typed copy of an answer. The limit has none
abbrev pub tree_of_answer : Answer → Option TypedTree
tree_of_answer (success x c) = Some x
tree_of_answer (failure x) = Some x
tree_of_answer limit = None

-- ---- promises

-- the promises of a success with this typed copy and these capabilities
pub record SuccessPromises (world : World) (e : Source) (x : TypedTree) (c : Caps) : Type 0 where
  -- evaluation gives a value of the type, or fails in an allowed way
  pub typed : HasFound (annotation x) (eval world e)
  pub safe : IsSafe (eval world e)
  -- where the expression is true, the capabilities hold
  pub known : IsTrueOutcome (eval world e) → AllHold world c
  -- the copy evaluates as the expression does
  pub same : EvaluatesAs world x e

-- the promises of a failure with this typed copy: a value has the type that was found all the same
pub record FailurePromises (world : World) (e : Source) (x : TypedTree) : Type 0 where
  pub typed : HasFound (annotation x) (eval world e)
  pub same : EvaluatesAs world x e

abbrev pub AnswerPromises : World → Source → Answer → Type 0
AnswerPromises world e (success x c) = SuccessPromises world e x c
AnswerPromises world e (failure x) = FailurePromises world e x
AnswerPromises world e limit = Unit {0}

-- the promise is kept in each world of a reliable setting in which the slots of the expression are bound and the prior
-- capabilities hold
abbrev pub IsSoundAnswer : Setting → Source → Caps → Answer → Type 0
IsSoundAnswer s e prior a =
    IsReliable s
    → (world : World) → IsWorldOf s world → SlotsBound world.slots e → AllHold world prior
    → AnswerPromises world e a
