-- Ids that are found in rounds: the invariant of a round, and the result at the end.
use Rattle.std.proofs.Common.{◌≡◌, ℕ, zero, suc, ◌≤◌, ◌<◌, ◌⊎◌, inl, inr, List, [], sym, subst, arith}
use Rattle.std.specs.List.{flat_map}
use Rattle.std.proofs.lemmas.Bool.{cases_lt}
use Rattle.cedar_types.specs.Names.{Uid}
use Rattle.cedar_typing.specs.Evaluation.Conformance.{IsOneOf}
use Rattle.cedar_typing.proofs.Basics.Members.{in_left, in_right, in_flat, all_flat}
use Rattle.cedar_typechecker.proofs.Levels.Inclusions.{in_either}
use Rattle.cedar_host.specs.Loading.{AreAmong, AreSame, ids_at, ids_below, AddsNew}

-- after the first ids and k rounds: the set has each id that is reached in k steps or fewer, and each id
-- that its members hold, except for the members that came last
pub record IsRound (answered : Uid → List Uid) (start : List Uid) (k : ℕ) (ids newest : List Uid) :
    Type 0 where
  pub all : AreAmong (ids_below answered start (suc k)) ids
  pub only : AreAmong ids (ids_below answered start (suc k))
  pub asked : (u : Uid) → IsOneOf u ids → AreAmong (answered u) ids ⊎ IsOneOf u newest
  pub last : AreAmong newest (ids_at answered start k)

-- a member of none or of the newest is one of the newest
pub of_none : (u : Uid) (newest : List Uid) → IsOneOf u [] ⊎ IsOneOf u newest → IsOneOf u newest
of_none u newest (inl k) = absurd k
of_none u newest (inr k) = k

module _ (answered : Uid → List Uid) (start : List Uid) where
  abbrev At : ℕ → List Uid
  At = ids_at answered start

  abbrev Below : ℕ → List Uid
  Below = ids_below answered start

  pub first_round : (ids newest : List Uid) → AddsNew [] start ids newest
      → IsRound answered start 0 ids newest
  first_round ids newest a = record {
    all = a.there;
    only = λ u h. a.of_these u (of_none u newest (a.only u h));
    asked = λ u h. inr (of_none u newest (a.only u h));
    last = a.of_these;
  }

  module _ (k : ℕ) (ids newest ids' newest' : List Uid) (r : IsRound answered start k ids newest)
      (a : AddsNew ids (flat_map answered newest) ids' newest') where
    -- the ids that the newest hold are one step further
    further : AreAmong (flat_map answered newest) (At (suc k))
    further =
        all_flat answered (λ u. IsOneOf u (At (suc k))) newest
        (λ b i u h. in_flat answered u b (At k) (r.last b i) h)

    answered_there : (b : Uid) → AreAmong (answered b) ids ⊎ IsOneOf b newest → AreAmong (answered b) ids'
    answered_there b (inl c) u h = a.kept u (c u h)
    answered_there b (inr i) u h = a.there u (in_flat answered u b newest i h)

    reached : AreAmong (At (suc k)) ids'
    reached =
        all_flat answered (λ u. IsOneOf u ids') (At k)
        (λ b i. answered_there b (r.asked b (r.all b (in_right b (Below k) (At k) i))))

    below : (u : Uid) → IsOneOf u ids ⊎ IsOneOf u newest' → IsOneOf u (Below (suc (suc k)))
    below u (inl h) = in_left u (Below (suc k)) (At (suc k)) (r.only u h)
    below u (inr h) = in_right u (Below (suc k)) (At (suc k)) (further u (a.of_these u h))

    old_or_new : (u : Uid) → IsOneOf u ids ⊎ IsOneOf u newest'
        → AreAmong (answered u) ids' ⊎ IsOneOf u newest'
    old_or_new u (inl h) = inl (answered_there u (r.asked u h))
    old_or_new u (inr h) = inr h

    pub next_round : IsRound answered start (suc k) ids' newest'
    next_round = record {
      all = λ u h.
          in_either (Below (suc k)) (At (suc k)) u (IsOneOf u ids') h (λ i. a.kept u (r.all u i))
          (reached u);
      only = λ u h. below u (a.only u h);
      asked = λ u h. old_or_new u (a.only u h);
      last = λ u h. further u (a.of_these u h);
    }

  -- ---- at the end

  -- no steps reach no ids
  pub same_at_none : (n : ℕ) (ids : List Uid) → n ≡ 0 → ids ≡ [] → AreSame (Below n) ids
  same_at_none n ids e f =
      subst (λ i. AreSame (Below i) ids) (sym e)
      (subst (AreSame []) (sym f) (record { all = λ u h. h; only = λ u h. h }))

  -- after as many rounds as there are steps
  pub same_after : (k n : ℕ) (ids newest : List Uid) → IsRound answered start k ids newest → n ≡ suc k
      → AreSame (Below n) ids
  same_after k n ids newest r e =
      subst (λ i. AreSame (Below i) ids) (sym e) (record { all = r.all; only = r.only })

  pub starts_below : (k : ℕ) → AreAmong start (Below (suc k))
  starts_below zero u h = h
  starts_below (suc k) u h = in_left u (Below (suc k)) (At (suc k)) (starts_below k u h)

  pub below_same : (j n : ℕ) → j ≡ n → AreAmong (Below j) (Below n)
  below_same j n e u h = subst (λ i. IsOneOf u (Below i)) e h

  -- ids that are reached in fewer steps are reached in more
  below_more : (j n : ℕ) → j ≤ n → AreAmong (Below j) (Below n)
  below_more j zero l = below_same j 0 (omega arith)
  below_more j (suc n) l = go (below_more j n) (cases_lt n j)
    where
      go : (j ≤ n → AreAmong (Below j) (Below n)) → (n < j) ⊎ (j ≤ n)
          → AreAmong (Below j) (Below (suc n))
      go f (inl m) = below_same j (suc n) (omega arith)
      go f (inr m) = λ u h. in_left u (Below n) (At n) (f m u h)

  module _ (k : ℕ) (ids : List Uid) (r : IsRound answered start k ids []) where
    closed : (b : Uid) → AreAmong (answered b) ids ⊎ IsOneOf b [] → AreAmong (answered b) ids
    closed b (inl c) = c
    closed b (inr i) = absurd i

    at_end : (n : ℕ) → AreAmong (At n) ids
    at_end zero = λ u h. r.all u (starts_below k u h)
    at_end (suc n) =
        all_flat answered (λ u. IsOneOf u ids) (At n) (λ b i. closed b (r.asked b (at_end n b i)))

    all_at_end : (n : ℕ) → AreAmong (Below n) ids
    all_at_end zero = λ u h. absurd h
    all_at_end (suc n) =
        λ u h. in_either (Below n) (At n) u (IsOneOf u ids) h (all_at_end n u) (at_end n u)

    -- if the last round found nothing, more rounds find nothing
    pub same_at_end : (n : ℕ) → suc k ≤ n → AreSame (Below n) ids
    same_at_end n l = record {
      all = all_at_end n;
      only = λ u h. below_more (suc k) n l u (r.only u h);
    }
