-- The level that a policy requires: the least one at which it has no level error.
use Rattle.std.specs.Prelude.{◌≡◌, ◌↔◌, ℕ, ◌≤◌, ◌<◌, List, [], Option, Some, None}
use Rattle.cedar_types.specs.Errors.{Finding, Warning}
use Rattle.cedar_types.specs.Templates.{PlainTemplate}
use Rattle.cedar_typing.specs.Soundness.Policies.{Basis}
use Rattle.cedar_typechecker.specs.Levels.Outcome.{LevelOutcome}
use Rattle.cedar_typechecker.specs.Slices.Policies.{PolicyIsWithinLevel}

-- ---- the definition

-- the level that a policy requires
abbrev pub IsRequiredLevel : Basis → PlainTemplate → Option ℕ → Type 0
-- there is no required level if the policy has a level error at each number of 32 bits, for example
-- because it dereferences an entity literal
IsRequiredLevel b t None = (n : ℕ) → n ≤ 4294967295 → PolicyIsWithinLevel b t n → ⊥
-- else the required level is the least number at which the policy has no level error
IsRequiredLevel b t (Some n) =
    (n ≤ 4294967295) × PolicyIsWithinLevel b t n
    × ((m : ℕ) → m < n → PolicyIsWithinLevel b t m → ⊥)

-- ---- laws

-- a number is at least the required level, if there is one
abbrev pub Reaches : Option ℕ → ℕ → Type 0
Reaches None n = ⊥
Reaches (Some m) n = m ≤ n

-- the policy has no level error at n exactly if n reaches the required level
abbrev pub WithinWhereReached : Type 0
WithinWhereReached =
    (b : Basis) (t : PlainTemplate) (required : Option ℕ) (n : ℕ)
    → IsRequiredLevel b t required → n ≤ 4294967295
    → PolicyIsWithinLevel b t n ↔ Reaches required n

-- validation with levels finds no level error at n exactly if n reaches the required level
abbrev pub SilentWhereReached : Type 0
SilentWhereReached =
    (b : Basis) (t : PlainTemplate) (required : Option ℕ) (n : ℕ)
    (errors : List Finding) (warnings : List Warning)
    → IsRequiredLevel b t required → n ≤ 4294967295
    → (o : LevelOutcome b t n errors warnings)
    → (o.level_errors ≡ []) ↔ Reaches required n

-- a policy requires one level, or none
abbrev pub RequiredLevelIsOne : Type 0
RequiredLevelIsOne =
    (b : Basis) (t : PlainTemplate) (one other : Option ℕ)
    → IsRequiredLevel b t one → IsRequiredLevel b t other → one ≡ other
