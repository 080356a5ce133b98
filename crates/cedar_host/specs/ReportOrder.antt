-- The order of the findings in a report: first those without a place, then by where places start,
-- and then by where they end.
use Rattle.std.specs.Prelude.{◌≡◌, ◌⊎◌, ◌<◌, ◌≤◌, List, [], ◌∷◌, map, Option, Some, None}
use Rattle.std.specs.List.{AllByRecursion}
use Rattle.cedar_types.specs.declared.base.location.Loc.{Loc}
use Rattle.cedar_host.specs.declared.reports.PolicyError.{PolicyError}
use Rattle.cedar_host.specs.declared.reports.PolicyReport.{PolicyReport}
use Rattle.cedar_host.specs.declared.reports.PolicyWarning.{PolicyWarning}

-- a place does not stand behind another
abbrev pub IsNotBehind : Option Loc → Option Loc → Type 0
IsNotBehind None q = Unit {0}
IsNotBehind (Some p) None = ⊥
IsNotBehind (Some p) (Some q) = (p.start < q.start) ⊎ ((p.start ≡ q.start) × (p.end ≤ q.end))

-- none stands behind a later one
abbrev pub AreInOrder : List (Option Loc) → Type 0
AreInOrder [] = Unit {0}
AreInOrder (p ∷ ps) = AllByRecursion (IsNotBehind p) ps × AreInOrder ps

abbrev pub places_of_errors : List PolicyError → List (Option Loc)
places_of_errors es = map (λ e. e.place) es

abbrev pub places_of_warnings : List PolicyWarning → List (Option Loc)
places_of_warnings ws = map (λ w. w.place) ws

-- a report lists its errors and its warnings in this order
pub record IsInOrder (r : PolicyReport) : Type 0 where
  pub errors : AreInOrder (places_of_errors r.errors.items)
  pub warnings : AreInOrder (places_of_warnings r.warnings.items)
