-- Promises of the checks of a policy: policies, errors and levels for which a promise is false, and
-- those for which nothing is promised. Each shows a part of the promise that no other example
-- needs.
use Rattle.std.specs.Prelude.{◌≡◌, ℕ, true, List, [], ◌∷◌, Some}
use Rattle.cedar_types.specs.declared.base.expressions.operators.UnaryOp.{UnaryOp}
use Rattle.cedar_types.specs.declared.base.types.ValidationMode.TheVariants.{Strict}
use Rattle.cedar_types.specs.Errors.{Finding, unrecognized_entity_type, unrecognized_action_id, internal_invariant_violation}
use Rattle.cedar_types.specs.Errors.{maximum_level_exceeded, literal_dereference_target}
use Rattle.cedar_types.specs.Expressions.Tree.{and, unary}
use Rattle.cedar_types.specs.Names.{Path, Uid}
use Rattle.cedar_types.specs.Templates.{PlainTemplate}
use Rattle.cedar_typing.specs.Examples.Conforming.{lost, review_basis}
use Rattle.cedar_typing.specs.Examples.CopyPremises.{meet_twice_basis, greet_in_meet}
use Rattle.cedar_typing.specs.Examples.Expressions.{false_lit, the, principal, equal, mistyped}
use Rattle.cedar_typing.specs.Examples.PolicySoundness.{policy_when}
use Rattle.cedar_typing.specs.TypedCopies.Policies.{SomeCopyMeansTheSame}
use Rattle.cedar_typechecker.specs.Levels.Errors.{exceeds}
use Rattle.cedar_typechecker.specs.Levels.Required.{IsRequiredLevel}
use Rattle.cedar_typechecker.specs.Slices.Examples.{HasLevelError, active_of, guided_page}
use Rattle.cedar_typechecker.specs.Slices.Examples.World.{wiki_basis}
use Rattle.cedar_typechecker.specs.Slices.NeededPremises.Policies.{unguarded_access}
use Rattle.cedar_typechecker.specs.Slices.NeededPremises.Schemas.{by_schema, twice_declared}
use Rattle.cedar_typechecker.specs.Slices.Passing.{is_of_names_or_levels, IsKeptBesideErrors, IsKeptAtItsLevel}
use Rattle.cedar_typechecker.specs.Slices.Policies.{PolicyIsWithinLevel}
use Rattle.cedar_typechecker.specs.Slices.TypedCopies.{OwnCopySuffices}
use Rattle.cedar_typechecker.specs.Validations.{ValidIsSafe}

-- ---- errors beside which a promise is made

-- `1 + true == Status::"lost"`, with an id that its enumerated type does not list
abbrev pub lost_and_wrong : PlainTemplate
lost_and_wrong = policy_when (equal mistyped (the lost))

-- beside as many errors as there are such ids, the promise is made, and it is false
pub record ErrorsOfMembers : Type 0 where
  pub one : (e : Finding) → ValidIsSafe (review_basis Strict) lost_and_wrong (e ∷ []) → ⊥
  -- beside one error more, nothing is promised
  pub two : (e f : Finding) → ValidIsSafe (review_basis Strict) lost_and_wrong (e ∷ f ∷ [])

-- a policy that requires three levels, and its errors in a validation for two
abbrev pub GuidedBeside : List Finding → Type 0
GuidedBeside = IsKeptBesideErrors (wiki_basis Strict) guided_page 2

abbrev pub too_deep : Finding
too_deep = record unguarded_access { fault = exceeds 2 3 }

pub record ErrorsBesideLevels : Type 0 where
  -- an error of a type does not free from the promise
  pub of_types : GuidedBeside (unguarded_access ∷ []) → ⊥
  -- an error of a level frees from the promise, also behind an error of a type
  pub of_levels : GuidedBeside (unguarded_access ∷ too_deep ∷ [])
  -- errors that free from the promise
  pub entity_type : (p : Path) → is_of_names_or_levels (unrecognized_entity_type p) ≡ true
  pub action : (u : Uid) → is_of_names_or_levels (unrecognized_action_id u) ≡ true
  pub invariant : is_of_names_or_levels internal_invariant_violation ≡ true
  pub level : (n k : ℕ) → is_of_names_or_levels (maximum_level_exceeded n k) ≡ true
  pub literal : is_of_names_or_levels literal_dereference_target ≡ true

-- ---- the required level

-- `(principal.active && !principal.active) && (1 + true)`, whose right side is never evaluated, and
-- whose check fails. So no condition was typed that demands a level
abbrev pub never_both : PlainTemplate
never_both =
    policy_when
    (and tt (and tt (active_of principal) (unary tt UnaryOp.Not (active_of principal))) mistyped)

-- the policy is false over the store, and misses the principal over the slice of no steps
pub record BothHalvesAtItsLevel : Type 0 where
  pub required : IsRequiredLevel (wiki_basis Strict) never_both (Some 0)
  pub broken : IsKeptAtItsLevel (wiki_basis Strict) never_both → ⊥

-- ---- typed conditions

-- `action in Action::"meet" && false`, by a schema that declares the action twice: its typed
-- condition is the left side, which is true
abbrev pub met_and_false : PlainTemplate
met_and_false = policy_when (and tt greet_in_meet false_lit)

pub record CopiesOfFaultySchemas : Type 0 where
  -- none of the checked environments has a condition of this meaning. One that is not checked may
  -- have
  pub some : SomeCopyMeansTheSame (meet_twice_basis Strict) met_and_false → ⊥
  -- level 0 has a level error, and level 1 has none: at level 1 the promise is false
  pub beyond : HasLevelError (by_schema twice_declared Strict) met_and_false 0 (exceeds 0 1)
  pub within : PolicyIsWithinLevel (by_schema twice_declared Strict) met_and_false 1
  pub own : OwnCopySuffices (by_schema twice_declared Strict) met_and_false → ⊥
