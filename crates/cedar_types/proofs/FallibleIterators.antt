-- Iterators whose items may be refused: each item brings them nearer to their end.
use Rattle.std.proofs.Common.{◌≡◌, ◌<◌, Bool, false, List, ◌∷◌, arith}
use Rattle.std.specs.Iterator.{size}
use Rattle.cedar_types.specs.FallibleIterators.{calls_left}

module _ {S X : Type 0} (left : S → List X) (has_ended : S → Bool) where
  pub fewer_calls : (s t : S) (x : X) → has_ended s ≡ false → has_ended t ≡ false → left s ≡ x ∷ left t
      → size (calls_left left has_ended t) < size (calls_left left has_ended s)
  fewer_calls s t x h k e = rw (h, k, e) (omega arith)
