-- Outcomes of checks, from the findings of searches.
use Rattle.std.proofs.Common.{◌≡◌, ap, sym, subst, ◌∙◌, ℕ, suc, Bool, true, false, List, [], ◌∷◌, length, refl, nat_eq, arith}
use Rattle.std.proofs.Common.{Option, Result, Ok, Err, IfErr}
use borrow.Author.Tests.{eqb-true}
use Rattle.std.specs.Bool.{Decides}
use Rattle.cedar_conformance.specs.Answers.{fault_in, lists_none, passes_if_any}

-- a test that equals a deciding test decides too
pub decided : {P : Type 0} (b r : Bool) → b ≡ r → Decides r P → (b ≡ true → P) × (P → b ≡ true)
decided {P} b r e d = subst (λ x. Decides x P) (sym e) d

-- a list whose length tests as zero is a list without elements
pub empty_list : {A : Type 0} (n : ℕ) (xs : List A) → n ≡ length xs → nat_eq n 0 ≡ lists_none xs
empty_list n [] e = ap (λ m. nat_eq m 0) e
empty_list n (x ∷ xs) e = at (nat_eq n 0) refl
  where
    at : (b : Bool) → nat_eq n 0 ≡ b → nat_eq n 0 ≡ false
    at true h =
        let none : n ≡ 0 = eqb-true n 0 h in
        let some : n ≡ suc (length xs) = e in
        absurd (omega arith)
    at false h = h

-- the fault that a check answers passes if the finding of its search passes
pub told : {F : Type 0} (p : F → Bool) (r : Result (Unit {0}) F) (o : Option F) → fault_in r ≡ o → passes_if_any p o ≡ true
    → IfErr r (λ f. p f ≡ true)
told p (Ok u) o e h = tt
told p (Err f) o e h = ap (passes_if_any p) e ∙ h
