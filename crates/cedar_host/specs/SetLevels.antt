-- Levels of sets of policies, by the levels of each policy.
use Rattle.std.specs.Prelude.{◌≡◌, ◌⊎◌, ℕ, ◌≤◌, List, Option, Some, None, option_map}
use Rattle.cedar_typing.specs.Evaluation.Conformance.{IsOneOf}
use Rattle.cedar_host.specs.declared.slices.SliceReport.{SliceReport}

-- the level in a report, if some level is enough for its policy
abbrev pub level_in : SliceReport → Option ℕ
level_in r = option_map (λ l. l.level) r.level

-- this many steps are enough for each policy, and one needs that many, unless none needs any
pub record IsGreatest (ls : List (Option ℕ)) (n : ℕ) : Type 0 where
  pub enough : (l : Option ℕ) → IsOneOf l ls → (m : ℕ) × (l ≡ Some m) × (m ≤ n)
  pub needed : (n ≡ 0) ⊎ IsOneOf (Some n) ls

-- the least level that is enough for all. There is none if no level is enough for one of them
abbrev pub IsLevelOfAll : List (Option ℕ) → Option ℕ → Type 0
IsLevelOfAll ls None = IsOneOf None ls
IsLevelOfAll ls (Some n) = IsGreatest ls n
