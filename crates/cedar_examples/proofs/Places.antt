-- The examples of places in order.
use Rattle.std.proofs.Common.{◌≡◌, ◌<◌, ◌≤◌, ◌⊎◌, ℕ, inl, inr, refl, arith}
use Rattle.cedar_examples.specs.Places.{PlaceExamples}

-- neither begins a place before the other, nor do both begin and the first end no later
not_in_order : (a b c d : ℕ) → ((a < c) → ⊥) → ((a ≡ c) → (b ≤ d) → ⊥) → (a < c) ⊎ ((a ≡ c) × (b ≤ d)) → ⊥
not_in_order a b c d f g (inl l) = f l
not_in_order a b c d f g (inr h) = g h.0 h.1

pub place_examples : PlaceExamples
place_examples = record {
  ordered = (
    (tt, (tt, (tt, (tt, tt)))),
    (
      (tt, (tt, (tt, tt))),
      (
        (inl (omega arith), (inl (omega arith), tt)),
        ((inr (refl, omega arith), tt), (tt, tt)),
      ),
    ),
  );
  none_behind = λ h. h.0.0;
  earlier_behind = λ h. not_in_order 2 3 1 9 (λ l. omega (arith, l)) (λ e l. omega (arith, e)) h.0.0;
  shorter_behind = λ h. not_in_order 2 5 2 3 (λ l. omega (arith, l)) (λ e l. omega (arith, l)) h.0.0;
  far_behind = λ h. not_in_order 2 3 1 2 (λ l. omega (arith, l)) (λ e l. omega (arith, e)) h.0.1.0;
}
