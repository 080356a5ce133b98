-- Ids that are found in rounds, if the store holds no more than was handed in.
use Rattle.std.proofs.Common.{◌≡◌, ℕ, zero, suc, ◌-◌, ◌≤◌, ◌<◌, ◌⊎◌, inl, inr, List, [], ◌∷◌, ◌++◌, refl, sym, subst, arith}
use Rattle.std.specs.List.{flat_map}
use Rattle.std.proofs.lemmas.Bool.{cases_lt}
use Rattle.cedar_types.specs.Names.{Uid}
use Rattle.cedar_types.specs.Values.Stores.{entity_at}
use Rattle.cedar_typechecker.specs.Slices.Reach.{ids_of}
use Rattle.cedar_typing.specs.Evaluation.Conformance.{IsOneOf}
use Rattle.cedar_typing.proofs.Basics.Members.{in_left, in_right, in_flat, all_flat}
use Rattle.cedar_typechecker.proofs.Levels.Inclusions.{in_either}
use Rattle.cedar_host.specs.declared.rounds.Rounds.{Rounds}
use Rattle.cedar_host.specs.Loading.{AreAmong, ids_at, ids_below, AddsNew}
use Rattle.cedar_host.specs.Rounds.{Round, AreAnswered, HaveFound, AreAfter, one_more, with_round, FindSlices, ids_in, wanted_in, left_in}
use Rattle.cedar_host.proofs.LoadedSlices.{loads_of}
use Rattle.cedar_host.proofs.FoundInRounds.{of_none, starts_below, below_same}

-- ---- for answers that give no more than was handed in

module _ (answered : Uid → List Uid) (start : List Uid) (steps : ℕ) where
  abbrev At : ℕ → List Uid
  At = ids_at answered start

  abbrev Below : ℕ → List Uid
  Below = ids_below answered start

  abbrev Found : ℕ → List Uid → List Uid → Type 0
  Found = HaveFound answered start steps

  same : (j n : ℕ) → j ≡ n → AreAmong (Below j) (Below n)
  same = below_same answered start

  -- no steps reach no ids
  found_of_none : (left : ℕ) (ids wanted : List Uid) → steps ≡ 0 → left ≡ 0 → Found left ids wanted
  found_of_none left ids wanted e f = record {
    reached = λ u h. absurd (same (steps - left) 0 (omega arith) u h);
    followed = λ l. absurd (not_more l);
  }
    where
      not_more : 0 < left → ⊥
      not_more l = omega arith

  found_first : (left : ℕ) (ids wanted : List Uid) → steps - left ≡ 1 → AddsNew [] start ids wanted
      → Found left ids wanted
  found_first left ids wanted e a = record {
    reached = λ u h. a.there u (same (steps - left) 1 e u h);
    followed = λ l u h. inr (of_none u wanted (a.only u h));
  }

  -- ids that are found in the last round are not followed
  found_last : (left : ℕ) (ids wanted wanted' : List Uid) → left ≡ 0 → Found left ids wanted
      → Found left ids wanted'
  found_last left ids wanted wanted' e f = record { reached = f.reached; followed = λ l. absurd (not_more l) }
    where
      not_more : 0 < left → ⊥
      not_more l = omega arith

  -- ---- one round more

  module _ (left : ℕ) (ids wanted held ids' wanted' : List Uid) (f : Found left ids wanted)
      (more : 0 < left) (a : AddsNew ids held ids' wanted')
      (told : (u : Uid) → IsOneOf u wanted → AreAmong (answered u) held) where
    there_now : (b : Uid) → AreAmong (answered b) ids ⊎ IsOneOf b wanted → AreAmong (answered b) ids'
    there_now b (inl c) u h = a.kept u (c u h)
    there_now b (inr i) u h = a.there u (told b i u h)

    answers_there : (b : Uid) → IsOneOf b ids → AreAmong (answered b) ids'
    answers_there b i = there_now b (f.followed more b i)

    reached_now : (k : ℕ) → suc k ≡ steps - left → AreAmong (Below (suc (suc k))) ids'
    reached_now k e u h =
        in_either (Below (suc k)) (At (suc k)) u (IsOneOf u ids') h
        (λ i. a.kept u (f.reached u (same (suc k) (steps - left) e u i)))
        (all_flat answered (λ v. IsOneOf v ids') (At k)
        (λ b i. answers_there b (f.reached b (same (suc k) (steps - left) e b (in_right b (Below k) (At k) i)))) u)

    old_or_new : (u : Uid) → IsOneOf u ids ⊎ IsOneOf u wanted' → AreAmong (answered u) ids' ⊎ IsOneOf u wanted'
    old_or_new u (inl h) = inl (answers_there u h)
    old_or_new u (inr h) = inr h

    pub found_next : (left' : ℕ) → left' ≡ left - 1 → left ≤ steps - 1 → Found left' ids' wanted'
    found_next left' e le =
        let k = steps - left - 1 in
        let before : suc k ≡ steps - left = omega arith in
        let now : steps - left' ≡ suc (suc k) = omega arith in
        record {
          reached = λ u h. reached_now k before u (same (steps - left') (suc (suc k)) now u h);
          followed = λ l u h. old_or_new u (a.only u h);
        }

  -- ---- at the end

  module _ (left : ℕ) (ids : List Uid) (f : Found left ids []) (more : 0 < left) (le : left ≤ steps - 1) where
    closed : (b : Uid) → AreAmong (answered b) ids ⊎ IsOneOf b [] → AreAmong (answered b) ids
    closed b (inl c) = c
    closed b (inr i) = absurd i

    at_once : (n : ℕ) → AreAmong (At n) ids
    at_once zero =
        let k = steps - left - 1 in
        let before : suc k ≡ steps - left = omega arith in
        λ u h. f.reached u (same (suc k) (steps - left) before u (starts_below answered start k u h))
    at_once (suc n) =
        all_flat answered (λ u. IsOneOf u ids) (At n) (λ b i. closed b (f.followed more b (at_once n b i)))

    all_once : (n : ℕ) → AreAmong (Below n) ids
    all_once zero = λ u h. absurd h
    all_once (suc n) = λ u h. in_either (Below n) (At n) u (IsOneOf u ids) h (all_once n u) (at_once n u)

  all_found : (left : ℕ) (ids : List Uid) → Found left ids [] → left ≤ steps - 1 → AreAmong (Below steps) ids
  all_found left ids f le = by (cases_lt 0 left)
    where
      by : (0 < left) ⊎ (left ≤ 0) → AreAmong (Below steps) ids
      by (inl more) = all_once left ids f more le steps
      by (inr none) = λ u h. f.reached u (same steps (steps - left) (omega arith) u h)

-- ---- one round more has its answers

pub answered_too : (answered : Uid → List Uid) (left : ℕ) (d : Round) (done : List Round)
    → AreAnswered answered done → ((u : Uid) → IsOneOf u d.asked → AreAmong (answered u) d.held)
    → AreAnswered answered (one_more left d done)
answered_too answered zero d done ok told = ok
answered_too answered (suc n) d done ok told =
    λ e i.
    in_either done (d ∷ []) e ((u : Uid) → IsOneOf u e.asked → AreAmong (answered u) e.held) i (ok e)
    (elim [
      | inl q ↦
          subst (λ (z : Round). (u : Uid) → IsOneOf u z.asked → AreAmong (answered u) z.held) (sym q) told
      | inr j ↦ absurd j
    ])

-- ---- after the rounds that were done

pub after_none : (start : List Uid) (steps : ℕ) (r : Rounds) → steps ≡ 0 → left_in r ≡ 0 → ids_in r ≡ []
    → AreAfter start steps [] r
after_none start steps r e f none = record {
  found = λ answered ok. found_of_none answered start steps (left_in r) (ids_in r) (wanted_in r) e f;
  fewer = omega arith;
  only = λ u h. absurd (subst (IsOneOf u) none h);
}

pub after_first : (start : List Uid) (steps : ℕ) (r : Rounds) → 1 ≤ steps → left_in r ≡ steps - 1
    → AddsNew [] start (ids_in r) (wanted_in r) → AreAfter start steps [] r
after_first start steps r some e a = record {
  found = λ answered ok. found_first answered start steps (left_in r) (ids_in r) (wanted_in r) (omega arith) a;
  fewer = omega arith;
  only = λ u h. in_left u start [] (a.of_these u (of_none u (wanted_in r) (a.only u h)));
}

module _ (start : List Uid) (steps : ℕ) (done : List Round) (r next : Rounds) (held : List Uid)
    (before : AreAfter start steps done r) where
  abbrev this : Round
  this = record { asked = wanted_in r; held = held }

  no_more : (left : ℕ) → left ≡ 0 → one_more left this done ≡ done
  no_more zero e = refl
  no_more (suc n) e = absurd (nothing e)
    where
      nothing : suc n ≡ 0 → ⊥
      nothing h = omega arith

  one : (left : ℕ) → 0 < left → one_more left this done ≡ done ++ this ∷ []
  one zero l = absurd (nothing l)
    where
      nothing : 0 < 0 → ⊥
      nothing h = omega arith
  one (suc n) l = refl

  -- the last round
  pub after_last : left_in r ≡ 0 → left_in next ≡ left_in r → ids_in next ≡ ids_in r
      → AreAfter start steps (with_round r held done) next
  after_last e f g =
      subst (λ ds. AreAfter start steps ds next) (sym (no_more (left_in r) e))
      (record {
        found = λ answered ok.
            subst (λ us. HaveFound answered start steps (left_in next) us (wanted_in next)) (sym g)
            (subst (λ n. HaveFound answered start steps n (ids_in r) (wanted_in next)) (sym f)
            (found_last answered start steps (left_in r) (ids_in r) (wanted_in r) (wanted_in next) e
            (before.found answered ok)));
        fewer = subst (λ n. n ≤ steps - 1) (sym f) before.fewer;
        only = subst (λ us. AreAmong us (start ++ flat_map (λ (d : Round). d.held) done)) (sym g) before.only;
      })

  -- any earlier round
  module _ (more : 0 < left_in r) (a : AddsNew (ids_in r) held (ids_in next) (wanted_in next)) where
    abbrev all : List Round
    all = done ++ this ∷ []

    abbrev handed : List Round → List Uid
    handed = flat_map (λ (d : Round). d.held)

    is_last_of_all : IsOneOf this all
    is_last_of_all = in_right this done (this ∷ []) (inl refl)

    in_all : (u : Uid) → (d : Round) → IsOneOf d all → IsOneOf u d.held → IsOneOf u (start ++ handed all)
    in_all u d i h = in_right u start (handed all) (in_flat (λ (x : Round). x.held) u d all i h)

    of_done : (u : Uid) → IsOneOf u (handed done) → IsOneOf u (start ++ handed all)
    of_done =
        all_flat (λ (x : Round). x.held) (λ u. IsOneOf u (start ++ handed all)) done
        (λ d i u h. in_all u d (in_left d done (this ∷ []) i) h)

    handed_in : (u : Uid) → IsOneOf u (ids_in r) ⊎ IsOneOf u (wanted_in next) → IsOneOf u (start ++ handed all)
    handed_in u (inl h) =
        in_either start (handed done) u (IsOneOf u (start ++ handed all)) (before.only u h)
        (λ i. in_left u start (handed all) i) (of_done u)
    handed_in u (inr h) = in_all u this is_last_of_all (a.of_these u h)

    pub after_next : left_in next ≡ left_in r - 1 → AreAfter start steps (with_round r held done) next
    after_next e =
        subst (λ ds. AreAfter start steps ds next) (sym (one (left_in r) more))
        (record {
          found = λ answered ok.
              found_next answered start steps (left_in r) (ids_in r) (wanted_in r) held (ids_in next)
              (wanted_in next) (before.found answered (λ d i. ok d (in_left d done (this ∷ []) i))) more a
              (λ u i. ok this is_last_of_all u i) (left_in next) e before.fewer;
          fewer = omega (arith, before.fewer);
          only = λ u h. handed_in u (a.only u h);
        })

-- ---- the slices

pub find_slices : (r : Rounds) (ids : List Uid) → ids ≡ ids_in r → FindSlices r ids
find_slices r ids e none start steps done after store ok =
    let answered = λ (u : Uid). ids_of (entity_at store u) in
    let found : HaveFound answered start steps (left_in r) (ids_in r) [] =
    subst (HaveFound answered start steps (left_in r) (ids_in r)) none (after.found answered ok) in
    loads_of answered store (λ u v h. h) start steps ids
    (subst (AreAmong (ids_below answered start steps)) (sym e)
    (all_found answered start steps (left_in r) (ids_in r) found after.fewer))
