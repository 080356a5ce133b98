-- Iterators over a list whose items may be refused: the answer of a call of `next`, and the number
-- of calls that may still give an item.
use Rattle.std.specs.Prelude.{◌≡◌, ◌+◌, Bool, true, false, cond, List, [], ◌∷◌, length, Option, Some, None, Result, Ok, Err}
use Rattle.std.specs.Iterator.{Count, at_most}

-- `left` gives the items still to come, `has_ended` whether the iterator has ended, `view` the
-- reading of an item
module _ {S P X : Type 0} (left : S → List X) (has_ended : S → Bool) (view : P → X) where
  -- a call from s gave the first item left, or ended: with an `Err`, or with `None` if no item was
  -- left. After either end no item is left, and each call gives `None`
  abbrev pub YieldsOrEnds : {E : Type 0} → S → Option (Result P E) → S → Type 0
  YieldsOrEnds s None t = (left s ≡ []) × (left t ≡ []) × (has_ended t ≡ true)
  YieldsOrEnds s (Some (Err e)) t = (has_ended s ≡ false) × (has_ended t ≡ true) × (left t ≡ [])
  YieldsOrEnds s (Some (Ok p)) t =
      (has_ended s ≡ false) × (has_ended t ≡ false) × (left s ≡ view p ∷ left t)

module _ {S X : Type 0} (left : S → List X) (has_ended : S → Bool) where
  -- the calls that may still give an item: one more than the items left, for an `Err`
  abbrev pub calls_left : S → Count
  calls_left s = at_most (cond (has_ended s) 0 (length (left s) + 1))
