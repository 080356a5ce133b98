-- Places in the order of a report, and places that are not.
use Rattle.std.specs.Prelude.{ℕ, [], ◌∷◌, Option, Some, None}
use Rattle.cedar_types.specs.declared.base.location.Loc.{Loc}
use Rattle.cedar_host.specs.ReportOrder.{AreInOrder}

abbrev pub between : ℕ → ℕ → Option Loc
between a b = Some (record { start = a; end = b })

pub record PlaceExamples : Type 0 where
  -- the order of places: none first, then by starts, and then by ends
  pub ordered : AreInOrder (None ∷ None ∷ between 1 9 ∷ between 2 3 ∷ between 2 5 ∷ [])
  pub none_behind : AreInOrder (between 1 2 ∷ None ∷ []) → ⊥
  pub earlier_behind : AreInOrder (between 2 3 ∷ between 1 9 ∷ []) → ⊥
  pub shorter_behind : AreInOrder (between 2 5 ∷ between 2 3 ∷ []) → ⊥
  -- a place is out of order behind any later one, not only behind its neighbour
  pub far_behind : AreInOrder (between 2 3 ∷ between 4 5 ∷ between 1 2 ∷ []) → ⊥
