-- Levels of a policy that passes in Strict: they are its levels in Permissive too, because both
-- modes derive the same typed conditions.
use Rattle.std.specs.Prelude.{◌≡◌, ◌↔◌, ℕ, true, List, Option, None}
use Rattle.cedar_types.specs.declared.base.types.ValidationMode.TheVariants.{Strict, Permissive}
use Rattle.cedar_types.specs.Errors.{Finding, Warning}
use Rattle.cedar_types.specs.Extensions.Functions.{table_fault}
use Rattle.cedar_types.specs.Schemas.Formed.{has_formed_types}
use Rattle.cedar_types.specs.Templates.{PlainTemplate}
use Rattle.cedar_typing.specs.Refinement.{basis_in_mode}
use Rattle.cedar_typing.specs.Soundness.Policies.{Basis, CheckedOn}
use Rattle.cedar_typechecker.specs.Levels.Outcome.{LevelOutcome}
use Rattle.cedar_typechecker.specs.Levels.Required.{IsRequiredLevel}
use Rattle.cedar_typechecker.specs.Slices.Policies.{PolicyIsWithinLevel}

-- the levels of a policy do not depend on the mode: whether it has a level error at n, the level
-- that it requires, and the outcome of its validation with levels
pub record HasSameLevels (b : Basis) (t : PlainTemplate) : Type 0 where
  pub within : (n : ℕ)
      → PolicyIsWithinLevel (basis_in_mode Strict b) t n ↔ PolicyIsWithinLevel (basis_in_mode Permissive b) t n
  pub required : (r : Option ℕ)
      → IsRequiredLevel (basis_in_mode Strict b) t r ↔ IsRequiredLevel (basis_in_mode Permissive b) t r
  pub outcome : (n : ℕ) (errors : List Finding) (warnings : List Warning)
      → LevelOutcome (basis_in_mode Strict b) t n errors warnings
      ↔ LevelOutcome (basis_in_mode Permissive b) t n errors warnings

-- a policy that passes in Strict has the levels of Permissive
abbrev pub StrictLevelsAreKept : Type 0
StrictLevelsAreKept =
    (b : Basis) (t : PlainTemplate)
    → has_formed_types b.schema ≡ true → table_fault b.table.functions ≡ None
    → (errors errors' : List Finding) (old new : List Warning)
    → CheckedOn (basis_in_mode Strict b) t true errors errors' old new → HasSameLevels b t
