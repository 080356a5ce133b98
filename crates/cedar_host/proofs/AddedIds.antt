-- A set of ids that gains one more, or some and then more.
use Rattle.std.proofs.Common.{◌≡◌, ◌⊎◌, inl, inr, ◌||◌, true, false, true≢false, List, [], ◌∷◌, ◌++◌, sym, ◌∙◌, subst}
use Rattle.cedar_types.specs.Lemmas.Comparisons.{uid_same}
use Rattle.cedar_types.specs.Names.{Uid, uid_eq}
use Rattle.cedar_types.specs.Schemas.{uid_is_among}
use Rattle.cedar_typing.specs.Evaluation.Conformance.{IsOneOf}
use Rattle.cedar_typing.proofs.Basics.{or_left, or_right, or_cases}
use Rattle.cedar_typing.proofs.Basics.Members.{in_left, in_right}
use Rattle.cedar_typechecker.proofs.Levels.Inclusions.{in_either}
use Rattle.cedar_typechecker.proofs.Slices.Stores.{is_among}
use Rattle.cedar_host.specs.Loading.{AreAmong, AreNew, AddsNew}

-- membership by the test is membership
pub among : (us : List Uid) (u : Uid) → uid_is_among us u ≡ true → IsOneOf u us
among [] u h = absurd (true≢false (sym h))
among (v ∷ us) u h =
    or_cases (uid_eq u v) (uid_is_among us u) (IsOneOf u (v ∷ us))
    (λ e. inl (uid_same.to u v e)) (λ e. inr (among us u e)) h

-- ---- one id more

module _ (old these new added : List Uid) (x : Uid) (a : AddsNew old these new added) where
  -- these ids and one more are among others
  with_one : (ids : List Uid) → AreAmong these ids → IsOneOf x ids → AreAmong (these ++ x ∷ []) ids
  with_one ids f h u k =
      in_either these (x ∷ []) u (IsOneOf u ids) k (f u)
      (elim [ inl e ↦ subst (λ z. IsOneOf z ids) (sym e) h | inr i ↦ absurd i ])

  -- an id that the set has already
  known : IsOneOf x new → AddsNew old (these ++ x ∷ []) new added
  known h = record {
    kept = a.kept;
    there = with_one new a.there h;
    only = a.only;
    of_these = λ u k. in_left u these (x ∷ []) (a.of_these u k);
  }

  -- an id that the set lacks is none of the old ids
  pub fresh_too : uid_is_among new x ≡ false → AreNew added old → AreNew (added ++ x ∷ []) old
  fresh_too lacks f u i k =
      in_either added (x ∷ []) u ⊥ i (λ j. f u j k)
      (elim [
        | inl e ↦ true≢false (sym (is_among new x (a.kept x (subst (λ z. IsOneOf z old) e k))) ∙ lacks)
        | inr j ↦ absurd j
      ])

  -- nor is it one of the added ids
  pub not_added : uid_is_among new x ≡ false → IsOneOf x added → ⊥
  not_added lacks k = true≢false (sym (is_among new x (a.there x (a.of_these x k))) ∙ lacks)

  module _ (new' : List Uid)
      (members : (u : Uid) → uid_is_among new' u ≡ (uid_eq u x || uid_is_among new u)) where
    stays : AreAmong new new'
    stays u h = among new' u (members u ∙ or_right (uid_eq u x) (uid_is_among new u) (is_among new u h))

    comes : IsOneOf x new'
    comes = among new' x (members x ∙ or_left (uid_eq x x) (uid_is_among new x) (uid_same.itself x))

    before : (u : Uid) → IsOneOf u old ⊎ IsOneOf u added → IsOneOf u old ⊎ IsOneOf u (added ++ x ∷ [])
    before u (inl k) = inl k
    before u (inr k) = inr (in_left u added (x ∷ []) k)

    -- an id that the set lacks
    grown : AddsNew old (these ++ x ∷ []) new' (added ++ x ∷ [])
    grown = record {
      kept = λ u k. stays u (a.kept u k);
      there = with_one new' (λ u k. stays u (a.there u k)) comes;
      only = λ u k.
          or_cases (uid_eq u x) (uid_is_among new u)
          (IsOneOf u old ⊎ IsOneOf u (added ++ x ∷ []))
          (λ e. inr (in_right u added (x ∷ []) (inl (uid_same.to u x e))))
          (λ e. before u (a.only u (among new u e)))
          (sym (members u) ∙ is_among new' u k);
      of_these = λ u k.
          in_either added (x ∷ []) u (IsOneOf u (these ++ x ∷ [])) k
          (λ i. in_left u these (x ∷ []) (a.of_these u i)) (in_right u these (x ∷ []));
    }

    module _ (these' added' : List Uid) (one_more : these' ≡ these ++ x ∷ []) where
      pub lacked : added' ≡ added ++ x ∷ [] → AddsNew old these' new' added'
      lacked e =
          subst (λ z. AddsNew old z new' added') (sym one_more)
          (subst (AddsNew old (these ++ x ∷ []) new') (sym e) grown)

      pub had : new' ≡ new → added' ≡ added → AddsNew old these' new' added'
      had same e =
          let h : IsOneOf x new = subst (IsOneOf x) same comes in
          let k : AddsNew old (these ++ x ∷ []) new' added =
          subst (λ z. AddsNew old (these ++ x ∷ []) z added) (sym same) (known h) in
          subst (λ z. AddsNew old z new' added') (sym one_more)
          (subst (AddsNew old (these ++ x ∷ []) new') (sym e) k)

-- ---- some ids, and then more

module _ (old these mid added more new found : List Uid) (first : AddsNew old these mid added)
    (second : AddsNew mid more new found) where
  old_or_found : (u : Uid) → IsOneOf u old ⊎ IsOneOf u added → IsOneOf u old ⊎ IsOneOf u (added ++ found)
  old_or_found u (inl k) = inl k
  old_or_found u (inr k) = inr (in_left u added found k)

  by_both : (u : Uid) → IsOneOf u mid ⊎ IsOneOf u found → IsOneOf u old ⊎ IsOneOf u (added ++ found)
  by_both u (inl k) = old_or_found u (first.only u k)
  by_both u (inr k) = inr (in_right u added found k)

  both : AddsNew old (these ++ more) new (added ++ found)
  both = record {
    kept = λ u k. second.kept u (first.kept u k);
    there = λ u k.
        in_either these more u (IsOneOf u new) k (λ i. second.kept u (first.there u i)) (second.there u);
    only = λ u k. by_both u (second.only u k);
    of_these = λ u k.
        in_either added found u (IsOneOf u (these ++ more)) k
        (λ i. in_left u these more (first.of_these u i)) (λ i. in_right u these more (second.of_these u i));
  }

  pub then_more : (all came : List Uid) → all ≡ these ++ more → came ≡ added ++ found
      → AddsNew old all new came
  then_more all came e f =
      subst (λ z. AddsNew old z new came) (sym e)
      (subst (AddsNew old (these ++ more) new) (sym f) both)
