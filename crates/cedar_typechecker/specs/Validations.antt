-- The promises of validation without levels: a policy whose only errors are ids that their
-- enumerated types do not list is safe, and a policy that is warned to be impossible is never true.
use Rattle.std.specs.Prelude.{◌≡◌, ◌≤◌, false, List, length, None}
use Rattle.cedar_types.specs.Errors.{Finding, Warning}
use Rattle.cedar_types.specs.Extensions.Functions.{table_fault}
use Rattle.cedar_types.specs.Schemas.{Schema, has_fault}
use Rattle.cedar_types.specs.Templates.Findings.{wrong_members}
use Rattle.cedar_types.specs.Templates.{PlainTemplate, condition_of}
use Rattle.cedar_typing.specs.Evaluation.Eval.{eval}
use Rattle.cedar_typing.specs.Evaluation.World.{World}
use Rattle.cedar_typing.specs.Modes.{IsFormedFor}
use Rattle.cedar_typing.specs.Soundness.Policies.{Basis, IsSoundAndClosed, IsWellFormed, IsConforming}
use Rattle.cedar_typing.specs.Soundness.PolicyCheck.{IsBooleanOrAllowed}
use Rattle.cedar_typechecker.specs.Levels.Outcome.{ValidationOutcome}
use Rattle.cedar_typechecker.specs.Slices.Validation.{IsCutNowhere, WarnedIsNeverTrue}

-- validation finds no more errors than ids that their enumerated types do not list. There is no
-- other error then, because in Strict and in Permissive each such id is an error
abbrev pub HasWrongMembersAlone : Schema → PlainTemplate → List Finding → Type 0
HasWrongMembersAlone s t errors = length errors ≤ length (wrong_members s t)

-- a policy without another error, of which nothing is nested too deep, is safe: if it has no
-- unknowns, and its slots stand in its scope alone and are bound, its condition evaluates in each
-- world that conforms to a boolean, or fails only for a missing entity, an overflow or an extension
-- call
abbrev pub ValidIsSafe : Basis → PlainTemplate → List Finding → Type 0
ValidIsSafe b t errors =
    HasWrongMembersAlone b.schema t errors → IsCutNowhere b t → IsSoundAndClosed b
    → (world : World) → IsWellFormed t world.slots → IsConforming b world
    → IsBooleanOrAllowed (eval world (condition_of t))

-- both promises: a policy without another error is safe, and one that is warned to be impossible is
-- never true, with errors or without
pub record ValidationIsKept (b : Basis) (t : PlainTemplate) (errors : List Finding)
    (warnings : List Warning) : Type 0 where
  pub silent : ValidIsSafe b t errors
  pub never_true : WarnedIsNeverTrue b t warnings

-- both promises follow from the outcome of the validation, if the schema and the table have no
-- faults
abbrev pub ValidationsAreKept : Type 0
ValidationsAreKept =
    (b : Basis) (t : PlainTemplate)
    → has_fault b.schema ≡ false → IsFormedFor b.mode b.schema
    → table_fault b.table.functions ≡ None
    → (errors : List Finding) (warnings : List Warning)
    → ValidationOutcome b t errors warnings → ValidationIsKept b t errors warnings
