-- Findings in a policy: sets of errors that gain more, and tests that there are none.
use Rattle.std.proofs.Common.{◌≡◌, ◌↔◌, ℕ, Bool, true, false, ◌&&◌, true≢false, List, [], ◌∷◌, ◌++◌, map, length, ◌⊎◌, inl, inr, refl, sym, ap, subst, ◌∙◌, IsTrue, arith}
use Rattle.std.specs.Bool.{◌==◌}
use Rattle.std.specs.BTreeMap.{insert_entry}
use Rattle.std.specs.Map.{keys_of}
use Rattle.std.specs.Ordering.{match_ordering, is_eq}
use Rattle.std.specs.Prelude.{IsPermutation}
use Rattle.std.specs.declared.cmp.Ordering.{Ordering}
use Rattle.std.specs.declared.cmp.Ordering.TheVariants.{Less, Equal, Greater}
use Rattle.std.proofs.lemmas.List.Sorted.{IsPermutation-sym}
use Rattle.cedar_types.specs.declared.base.errors.validation_errors.ValidationError.{ValidationError}
use Rattle.cedar_types.specs.ErrorOrder.{error_cmp}
use Rattle.cedar_types.specs.declared.base.types.ValidationMode.TheVariants.{Strict}
use Rattle.cedar_types.specs.Errors.{Finding, finding_of}
use Rattle.cedar_types.specs.Schemas.{Schema}
use Rattle.cedar_types.specs.Templates.{PlainTemplate}
use Rattle.cedar_types.specs.Templates.Findings.{unknown_types, unknown_actions, wrong_members}
use Rattle.cedar_typing.specs.Evaluation.Conformance.{IsOneOf}
use Rattle.cedar_typing.specs.PolicyCheck.Outcome.{Adds, is_silent}
use Rattle.cedar_typing.specs.Soundness.Policies.{IsNamedBySchema}
use Rattle.cedar_typing.proofs.Basics.Gains.{in_either}
use Rattle.cedar_typing.proofs.Basics.Members.{in_left, in_right, moved}
use Rattle.cedar_typing.proofs.Policies.Tallies.{silent, tie_decides}
use Rattle.cedar_typechecker.specs.declared.survey.environments.Environments.{Environments}
use Rattle.cedar_typechecker.specs.Levels.Outcome.{name_findings}
use Rattle.cedar_typechecker.specs.Levels.Views.{findings}

-- ---- lists without findings

-- a test that there are none
pub silent_of_none : (xs : List ValidationError) (b : Bool) → (IsTrue b ↔ (length xs ≡ 0)) → b ≡ is_silent (findings xs)
silent_of_none [] true d = refl
silent_of_none [] false d = d.1 refl
silent_of_none (x ∷ xs) true d = absurd (not_none (d.0 refl))
  where
    not_none : length (x ∷ xs) ≡ 0 → ⊥
    not_none h = omega arith
silent_of_none (x ∷ xs) false d = refl

pub none_silent : (xs : List Finding) → is_silent xs ≡ true → xs ≡ []
none_silent [] h = refl
none_silent (x ∷ xs) h = absurd (true≢false (sym h))

pub both_none : {A : Type 0} (xs ys : List A) → xs ++ ys ≡ [] → (xs ≡ []) × (ys ≡ [])
both_none [] ys e = (refl, e)
both_none (x ∷ xs) ys e = cc

pub none_left : {A : Type 0} (xs : List A) → length xs ≡ 0 → xs ≡ []
none_left [] h = refl
none_left (x ∷ xs) h = absurd (omega arith)

-- lists with equal members are both empty or neither
pub silent_by_members : (xs ys : List Finding) → ((x : Finding) → IsOneOf x xs ↔ IsOneOf x ys)
    → is_silent xs ≡ is_silent ys
silent_by_members [] [] h = refl
silent_by_members [] (y ∷ ys) h = absurd ((h y).1 (inl refl))
silent_by_members (x ∷ xs) [] h = absurd ((h x).0 (inl refl))
silent_by_members (x ∷ xs) (y ∷ ys) h = refl

-- a permutation keeps the members
pub same_members : (xs ys : List Finding) → IsPermutation xs ys → (x : Finding) → IsOneOf x xs ↔ IsOneOf x ys
same_members xs ys p x = (moved xs ys p x, moved ys xs (IsPermutation-sym xs ys p) x)

-- ---- sets that gain members

pub adds_none : {A : Type 0} (old : List A) → Adds old [] old
adds_none {A} old x = (λ h. in_left x old [] h, λ h. back (in_either x old [] h))
  where
    back : IsOneOf x old ⊎ IsOneOf x [] → IsOneOf x old
    back (inl k) = k
    back (inr k) = absurd k

-- the old members are those of a base, and the added ones are those of others
pub gained_behind : {A : Type 0} (old these new base others : List A) → Adds old these new
    → ((x : A) → IsOneOf x old ↔ IsOneOf x base) → ((x : A) → IsOneOf x these ↔ IsOneOf x others)
    → (x : A) → IsOneOf x new ↔ IsOneOf x (base ++ others)
gained_behind {A} old these new base others a s o x =
    (λ h. to (in_either x old these ((a x).0 h)), λ h. from (in_either x base others h))
  where
    to : IsOneOf x old ⊎ IsOneOf x these → IsOneOf x (base ++ others)
    to (inl k) = in_left x base others ((s x).0 k)
    to (inr k) = in_right x base others ((o x).0 k)

    from : IsOneOf x base ⊎ IsOneOf x others → IsOneOf x new
    from (inl k) = (a x).1 (in_left x old these ((s x).1 k))
    from (inr k) = (a x).1 (in_right x old these ((o x).1 k))

pub gained_before : {A : Type 0} (old these new base others : List A) → Adds old these new
    → ((x : A) → IsOneOf x old ↔ IsOneOf x base) → ((x : A) → IsOneOf x these ↔ IsOneOf x others)
    → (x : A) → IsOneOf x new ↔ IsOneOf x (others ++ base)
gained_before {A} old these new base others a s o x =
    (λ h. to (in_either x old these ((a x).0 h)), λ h. from (in_either x others base h))
  where
    to : IsOneOf x old ⊎ IsOneOf x these → IsOneOf x (others ++ base)
    to (inl k) = in_right x others base ((s x).0 k)
    to (inr k) = in_left x others base ((o x).0 k)

    from : IsOneOf x others ⊎ IsOneOf x base → IsOneOf x new
    from (inl k) = (a x).1 (in_right x old these ((o x).1 k))
    from (inr k) = (a x).1 (in_left x old these ((s x).1 k))

-- these members, and one more
pub adds_one_more : {A : Type 0} (old these mid new : List A) (y : A) → Adds old these mid → Adds mid (y ∷ []) new
    → Adds old (these ++ y ∷ []) new
adds_one_more {A} old these mid new y a b x =
    (λ h. to (in_either x mid (y ∷ []) ((b x).0 h)), λ h. from (in_either x old (these ++ y ∷ []) h))
  where
    first : IsOneOf x old ⊎ IsOneOf x these → IsOneOf x (old ++ (these ++ y ∷ []))
    first (inl k) = in_left x old (these ++ y ∷ []) k
    first (inr k) = in_right x old (these ++ y ∷ []) (in_left x these (y ∷ []) k)

    to : IsOneOf x mid ⊎ IsOneOf x (y ∷ []) → IsOneOf x (old ++ (these ++ y ∷ []))
    to (inl k) = first (in_either x old these ((a x).0 k))
    to (inr k) = in_right x old (these ++ y ∷ []) (in_right x these (y ∷ []) k)

    last : IsOneOf x these ⊎ IsOneOf x (y ∷ []) → IsOneOf x new
    last (inl k) = (b x).1 (in_left x mid (y ∷ []) ((a x).1 (in_right x old these k)))
    last (inr k) = (b x).1 (in_right x mid (y ∷ []) k)

    from : IsOneOf x old ⊎ IsOneOf x (these ++ y ∷ []) → IsOneOf x new
    from (inl k) = (b x).1 (in_left x mid (y ∷ []) ((a x).1 (in_left x old these k)))
    from (inr k) = last (in_either x these (y ∷ []) k)

-- ---- keys of a map that gains one

module _ {K X F : Type 0} (cmp : K → K → Ordering) (view : K → F)
    (tied : (a b : K) → is_eq (cmp a b) ≡ true → view a ≡ view b) where
  abbrev viewed : List (K × X) → List F
  viewed es = map view (keys_of es)

  behind_all : (x : F) (k : K) (v : X) (es : List (K × X)) (new : List (K × X))
      → (IsOneOf x (viewed new) ↔ IsOneOf x (viewed es ++ view k ∷ []))
      → (y : F) → (IsOneOf x (y ∷ viewed new) ↔ IsOneOf x (y ∷ (viewed es ++ view k ∷ [])))
  behind_all x k v es new h y = (
    elim [ inl e ↦ inl e | inr i ↦ inr (h.0 i) ],
    elim [ inl e ↦ inl e | inr i ↦ inr (h.1 i) ],
  )

  by_order : (x : F) (k : K) (v : X) (e : K × X) (es : List (K × X)) (o : Ordering) → cmp k e.0 ≡ o
      → (IsOneOf x (viewed (insert_entry cmp es k v)) ↔ IsOneOf x (viewed es ++ view k ∷ []))
      → IsOneOf x (viewed (match_ordering o ((k, v) ∷ e ∷ es) ((e.0, v) ∷ es) (e ∷ insert_entry cmp es k v)))
      ↔ IsOneOf x (view e.0 ∷ (viewed es ++ view k ∷ []))
  by_order x k v e es Less is h = (
    elim [
      | inl q ↦ inr (in_right x (viewed es) (view k ∷ []) (inl q))
      | inr i ↦ in_left x (view e.0 ∷ viewed es) (view k ∷ []) i
    ],
    λ i. last (in_either x (view e.0 ∷ viewed es) (view k ∷ []) i),
  )
    where
      last : IsOneOf x (view e.0 ∷ viewed es) ⊎ IsOneOf x (view k ∷ []) → IsOneOf x (view k ∷ view e.0 ∷ viewed es)
      last (inl i) = inr i
      last (inr (inl q)) = inl q
      last (inr (inr z)) = absurd z
  by_order x k v e es Equal is h = (
    λ i. in_left x (view e.0 ∷ viewed es) (view k ∷ []) i,
    λ i. last (in_either x (view e.0 ∷ viewed es) (view k ∷ []) i),
  )
    where
      last : IsOneOf x (view e.0 ∷ viewed es) ⊎ IsOneOf x (view k ∷ []) → IsOneOf x (view e.0 ∷ viewed es)
      last (inl i) = i
      last (inr (inl q)) = inl (q ∙ tied k e.0 (ap is_eq is))
      last (inr (inr z)) = absurd z
  by_order x k v e es Greater is h = behind_all x k v es (insert_entry cmp es k v) h (view e.0)

  -- the keys gain one, or have it already
  insert_adds : (k : K) (v : X) (es : List (K × X))
      → Adds (viewed es) (view k ∷ []) (viewed (insert_entry cmp es k v))
  insert_adds k v [] x = (λ h. h, λ h. h)
  insert_adds k v (e ∷ es) x = by_order x k v e es (cmp k e.0) refl (insert_adds k v es x)

-- a map of errors that gains one
pub error_added : (x : ValidationError) (none : Environments) (es new : List (ValidationError × Environments))
    → new ≡ insert_entry error_cmp es x none
    → Adds (findings (keys_of es)) (finding_of x ∷ []) (findings (keys_of new))
error_added x none es new e =
    subst (λ (zs : List (ValidationError × Environments)). Adds (findings (keys_of es)) (finding_of x ∷ []) (findings (keys_of zs)))
    (sym e) (insert_adds error_cmp finding_of (λ a b. (tie_decides a b).0) x none es)

-- ---- findings in a policy

-- names without an error
pub named : (s : Schema) (t : PlainTemplate) → is_silent (name_findings Strict s t) ≡ true → IsNamedBySchema s t
named s t h =
    let wrong = both_none (wrong_members s t) (unknown_types s t ++ unknown_actions s t) (none_silent (name_findings Strict s t) h) in
    let unknown = both_none (unknown_types s t) (unknown_actions s t) wrong.1 in
    record { types = unknown.0; actions = unknown.1 }

-- a test that the passes over names find nothing
pub names_silent : (s : Schema) (t : PlainTemplate) (found : List ValidationError) (n : ℕ) (b : Bool)
    → IsPermutation (findings found) (name_findings Strict s t) → n ≡ length found → b ≡ (n == 0)
    → b ≡ is_silent (name_findings Strict s t)
names_silent s t found n b p counted tested =
    silent found n b counted tested
    ∙ silent_by_members (findings found) (name_findings Strict s t) (same_members (findings found) (name_findings Strict s t) p)

-- a test that the levels find nothing
pub levels_silent : (levels : List Finding) (found : List ValidationError) (b : Bool)
    → ((e : Finding) → IsOneOf e (findings found) ↔ IsOneOf e levels) → (IsTrue b ↔ (length found ≡ 0))
    → b ≡ is_silent levels
levels_silent levels found b same d = silent_of_none found b d ∙ silent_by_members (findings found) levels same

pub unchanged : (xs ys : List Finding) → xs ≡ ys → (e : Finding) → IsOneOf e xs ↔ IsOneOf e ys
unchanged xs ys is e = (λ h. subst (λ (zs : List Finding). IsOneOf e zs) is h, λ h. subst (λ (zs : List Finding). IsOneOf e zs) (sym is) h)
