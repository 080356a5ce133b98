-- Inference for `if`.
use Rattle.std.specs.Prelude.{◌&&◌, List, ◌++◌, Option, Some, is_some, if◌then◌else◌}
use Rattle.cedar_types.specs.declared.base.errors.type_errors.LubContext.TheVariants.{Conditional}
use Rattle.cedar_types.specs.Expressions.Tree.{if_then_else}
use Rattle.cedar_types.specs.Expressions.View.{Written}
use Rattle.cedar_types.specs.Errors.{Finding}
use Rattle.cedar_typing.specs.Capabilities.{Caps, union, intersection}
use Rattle.cedar_typing.specs.Infer.Parts.{Answer, limit, Part, AnswerAndErrors, answer_if, part_from, any_part, after}
use Rattle.cedar_typing.specs.TypeTests.Joins.{joined, join_errors}
use Rattle.cedar_typing.specs.TypeEnv.{TypeEnv}
use Rattle.cedar_typing.specs.TypeTests.{is_false, is_true, annotation_passes}
use Rattle.cedar_typing.specs.TypedExpr.{typed_as, annotation}

-- the answer if the test is True or False, from the test and the branch that stands for both
abbrev pub infer_constant_test : Written → Part → Part → Caps → Answer
infer_constant_test m a b c =
    answer_if (a.succeeded && b.succeeded)
    (if_then_else (typed_as (annotation b.tree) m) a.tree b.tree b.tree) c

-- the answer if the test is open, from the test and both branches
abbrev pub infer_open_test : TypeEnv → Written → Part → Part → Part → List Finding → AnswerAndErrors
infer_open_test env m a b e es = (
  answer_if
      (a.succeeded && b.succeeded && e.succeeded
      && is_some (joined env.mode (annotation b.tree) (annotation e.tree)))
      (if_then_else (typed_as (joined env.mode (annotation b.tree) (annotation e.tree)) m)
      a.tree b.tree e.tree)
      (intersection e.capabilities (union a.capabilities b.capabilities)),
  es ++ join_errors env m.place Conditional (annotation b.tree) (annotation e.tree),
)

-- the answer if the test is open, and a branch may be cut
abbrev pub infer_open_parts : TypeEnv → Written → Part → Option Part → Option Part → List Finding
    → AnswerAndErrors
infer_open_parts env m a (Some b) (Some e) es = infer_open_test env m a b e es
infer_open_parts env m a b e es = (limit, es)

-- the answer if the test is open and both branches are typed, one after the other
abbrev pub infer_open_branches : TypeEnv → Written → Part → AnswerAndErrors
    → (List Finding → AnswerAndErrors) → AnswerAndErrors
infer_open_branches env m a b otherwise =
    infer_open_parts env m a (part_from b.0) (part_from (otherwise b.1).0) (otherwise b.1).1

-- the answer for a typed test, and branches that are still to be typed
abbrev pub infer_branches : TypeEnv → Written → Caps → Part → List Finding
    → (Caps → List Finding → AnswerAndErrors) → (List Finding → AnswerAndErrors)
    → AnswerAndErrors
infer_branches env m prior a es branch otherwise =
    if annotation_passes is_true (annotation a.tree)
    then after (any_part (branch (union prior a.capabilities) es))
    (λ b es'. (infer_constant_test m a b (union a.capabilities b.capabilities), es'))
    else if annotation_passes is_false (annotation a.tree)
    then after (any_part (otherwise es)) (λ e es'. (infer_constant_test m a e e.capabilities, es'))
    else infer_open_branches env m a (branch (union prior a.capabilities) es) otherwise
