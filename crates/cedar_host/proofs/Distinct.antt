-- Distinct elements of a list, and one more that is new.
use Rattle.std.proofs.Common.{inl, inr, List, [], ◌∷◌, ◌++◌, sym}
use Rattle.cedar_typing.specs.Evaluation.Conformance.{IsOneOf}
use Rattle.cedar_typechecker.proofs.Levels.Inclusions.{in_either}
use Rattle.cedar_host.specs.Distinct.{AreDistinct}

pub distinct_more : {A : Type 0} (xs : List A) (x : A) → AreDistinct xs → (IsOneOf x xs → ⊥)
    → AreDistinct (xs ++ x ∷ [])
distinct_more [] x d n = (λ h. h, tt)
distinct_more (y ∷ xs) x d n = (
  λ h.
      in_either xs (x ∷ []) y ⊥ h d.0
      (elim [ inl e ↦ n (inl (sym e)) | inr j ↦ absurd j ]),
  distinct_more xs x d.1 (λ k. n (inr k)),
)
