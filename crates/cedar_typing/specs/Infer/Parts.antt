-- Answers and parts as plain data, and the ways in which inference goes on with a part.
use Rattle.std.specs.Prelude.{Bool, true, false, List, [], ◌∷◌, ◌++◌, Option, Some, None, if◌then◌else◌}
use Rattle.cedar_types.specs.declared.base.location.Loc.{Loc}
use Rattle.cedar_types.specs.Types.{Ty}
use Rattle.cedar_types.specs.Types.Order.{in_order}
use Rattle.cedar_types.specs.Errors.{Finding, unexpected_type}
use Rattle.cedar_typing.specs.Capabilities.{Caps, no_caps}
use Rattle.cedar_typing.specs.TypeEnv.{TypeEnv, finding}
use Rattle.cedar_typing.specs.TypeTests.{accepts}
use Rattle.cedar_typing.specs.TypedExpr.{TypedTree, annotation, without_type}

pub data Answer : Type 0 where
  success : TypedTree → Caps → Answer
  failure : TypedTree → Answer
  limit : Answer

-- the answer for a part, if it is not the limit
pub record Part : Type 0 where
  pub tree : TypedTree
  pub capabilities : Caps
  pub succeeded : Bool

-- an answer, or a part, beside the errors so far
abbrev pub AnswerAndErrors : Type 0
AnswerAndErrors = Answer × List Finding

abbrev pub PartAndErrors : Type 0
PartAndErrors = Option Part × List Finding

abbrev pub part_with : Bool → Caps → TypedTree → Part
part_with succeeded c e = record { tree = e; capabilities = c; succeeded = succeeded }

abbrev pub answer_if : Bool → TypedTree → Caps → Answer
answer_if true e c = success e c
answer_if false e c = failure e

-- the part that an answer hands on to the whole: a failure hands on no capabilities, the limit
-- nothing
abbrev pub part_from : Answer → Option Part
part_from (success e c) = Some (part_with true c e)
part_from (failure e) = Some (part_with false no_caps e)
part_from limit = None

-- ---- expected types of parts

abbrev pub as_failed : Part → Part
as_failed p = part_with false no_caps p.tree

abbrev pub as_failed_untyped : Part → Part
as_failed_untyped p = part_with false no_caps (without_type p.tree)

-- the part at l that must be of one of the types ts, by the type at its root
abbrev pub expect_type : TypeEnv → List Ty → Option Loc → Part → List Finding → Option Ty
    → PartAndErrors
expect_type env ts l p es None = (Some (as_failed p), es)
expect_type env ts l p es (Some t) =
    if accepts ts t then (Some p, es)
    else (Some (as_failed_untyped p), es ++ finding env l (unexpected_type (in_order ts) t) ∷ [])

abbrev pub expect_part : TypeEnv → List Ty → Option Loc → Option Part → List Finding → PartAndErrors
expect_part env ts l None es = (None, es)
expect_part env ts l (Some p) es = expect_type env ts l p es (annotation p.tree)

abbrev pub expect : TypeEnv → List Ty → Option Loc → AnswerAndErrors → PartAndErrors
expect env ts l o = expect_part env ts l (part_from o.0) o.1

-- the part that may be anything
abbrev pub any_part : AnswerAndErrors → PartAndErrors
any_part o = (part_from o.0, o.1)

-- ---- going on with a part

abbrev pub after_part : Option Part → List Finding → (Part → List Finding → AnswerAndErrors)
    → AnswerAndErrors
after_part None es f = (limit, es)
after_part (Some p) es f = f p es

-- the answer that goes on with a part, or the limit
abbrev pub after : PartAndErrors → (Part → List Finding → AnswerAndErrors) → AnswerAndErrors
after r f = after_part r.0 r.1 f
