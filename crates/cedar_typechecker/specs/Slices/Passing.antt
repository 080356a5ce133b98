-- The promises for a policy that passes: if validation with levels finds errors, but none of
-- unknown names and none of levels; and over the slice of as many steps as the policy requires
-- levels.
use Rattle.std.specs.Prelude.{◌≡◌, ℕ, Bool, true, false, List, Some}
use Rattle.cedar_types.specs.Errors.{Fault, Finding, Warning, unrecognized_entity_type, unrecognized_action_id, internal_invariant_violation}
use Rattle.cedar_types.specs.Errors.{maximum_level_exceeded, literal_dereference_target}
use Rattle.cedar_types.specs.Templates.{PlainTemplate}
use Rattle.cedar_typing.specs.Evaluation.Conformance.{IsOneOf}
use Rattle.cedar_typing.specs.Evaluation.World.{World}
use Rattle.cedar_typing.specs.Soundness.Policies.{Basis, IsSoundAndClosed, IsNamedBySchema, IsWellFormed, IsConforming}
use Rattle.cedar_typechecker.specs.Levels.Outcome.{LevelOutcome}
use Rattle.cedar_typechecker.specs.Levels.Required.{IsRequiredLevel}
use Rattle.cedar_typechecker.specs.Slices.Policies.{OfEachPassing}
use Rattle.cedar_typechecker.specs.Slices.Validation.{IsKeptInSlices}

-- ---- by the errors of the call

-- the fault is an unknown type, an unknown action, or one of the rules of levels. An id that its
-- enumerated type does not list is none of these, because typing does not ask which ids a type
-- lists
abbrev pub is_of_names_or_levels : Fault → Bool
is_of_names_or_levels (unrecognized_entity_type p) = true
is_of_names_or_levels (unrecognized_action_id u) = true
is_of_names_or_levels internal_invariant_violation = true
is_of_names_or_levels (maximum_level_exceeded n k) = true
is_of_names_or_levels literal_dereference_target = true
is_of_names_or_levels f = false

-- no error has such a fault
abbrev pub NoneOfNamesOrLevels : List Finding → Type 0
NoneOfNamesOrLevels errors =
    (e : Finding) → IsOneOf e errors → is_of_names_or_levels e.fault ≡ false

-- if no error is one of these, both halves of the promise hold in each world that conforms, for a
-- policy without unknowns, whose slots stand in its scope alone and are bound
abbrev pub IsKeptBesideErrors : Basis → PlainTemplate → ℕ → List Finding → Type 0
IsKeptBesideErrors b t n errors =
    NoneOfNamesOrLevels errors → IsSoundAndClosed b
    → (world : World) → IsWellFormed t world.slots → IsConforming b world
    → IsKeptInSlices t n world

-- this follows from the outcome of validation at n, if the check of the policy passes, and the
-- schema and the table have no faults
abbrev pub PassingIsKept : Type 0
PassingIsKept =
    OfEachPassing
    (λ b t. (n : ℕ) (found : List Finding) (warnings : List Warning)
    → LevelOutcome b t n found warnings → IsKeptBesideErrors b t n found)

-- ---- by the required level

-- if the policy requires n levels, both halves of the promise hold for the slice of n steps in each
-- world that conforms, for a policy without unknown names and without unknowns, whose slots stand
-- in its scope alone and are bound
abbrev pub IsKeptAtItsLevel : Basis → PlainTemplate → Type 0
IsKeptAtItsLevel b t =
    (n : ℕ) → IsRequiredLevel b t (Some n) → IsSoundAndClosed b → IsNamedBySchema b.schema t
    → (world : World) → IsWellFormed t world.slots → IsConforming b world
    → IsKeptInSlices t n world

-- this follows if the check of the policy passes, and the schema and the table have no faults
abbrev pub RequiredLevelSuffices : Type 0
RequiredLevelSuffices = OfEachPassing IsKeptAtItsLevel
