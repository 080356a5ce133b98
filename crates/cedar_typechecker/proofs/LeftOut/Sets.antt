-- Questions to a set, answered by its keys; and ids that are among others.
use Rattle.std.proofs.Common.{◌≡◌, Bool, true, false, true≢false, ◌||◌, List, [], ◌∷◌, ◌++◌, map, inl, inr, refl, sym, ◌∙◌, ap}
use Rattle.std.specs.Bool.{Decides}
use Rattle.std.specs.List.{list_any, flat_map}
use Rattle.cedar_types.specs.Names.{Uid, uid_eq}
use Rattle.cedar_types.specs.Schemas.{DeclaredAction, uid_is_among, descendants_of_action}
use Rattle.cedar_types.specs.Schemas.Listings.{actions_within}
use Rattle.cedar_typing.specs.Evaluation.Conformance.{IsOneOf}
use Rattle.cedar_typing.proofs.Basics.{or_left, or_right, or_cases}

module _ {K X : Type 0} (test : K → Bool) (view : K → X) (x : X) (decides : (k : K) → Decides (test k) (x ≡ view k)) where
  pub any_to : (ks : List K) → list_any test ks ≡ true → IsOneOf x (map view ks)
  any_to [] h = absurd (true≢false (sym h))
  any_to (k ∷ ks) h =
      or_cases (test k) (list_any test ks) (IsOneOf x (map view (k ∷ ks))) (λ e. inl ((decides k).0 e)) (λ e. inr (any_to ks e)) h

  pub any_from : (ks : List K) → IsOneOf x (map view ks) → list_any test ks ≡ true
  any_from [] h = absurd h
  any_from (k ∷ ks) (inl e) = or_left (test k) (list_any test ks) ((decides k).1 e)
  any_from (k ∷ ks) (inr h) = or_right (test k) (list_any test ks) (any_from ks h)

-- a test passes at some member of two joined lists if it passes in one of them
any_joined : (p : Uid → Bool) (xs ys : List Uid) → list_any p (xs ++ ys) ≡ (list_any p xs || list_any p ys)
any_joined p [] ys = refl
any_joined p (x ∷ xs) ys = ap (λ b. p x || b) (any_joined p xs ys) ∙ grouped (p x) (list_any p xs) (list_any p ys)
  where
    grouped : (a b c : Bool) → (a || (b || c)) ≡ ((a || b) || c)
    grouped true b c = refl
    grouped false b c = refl

regrouped : (a b c d : Bool) → ((a || b) || (c || d)) ≡ ((a || c) || (b || d))
regrouped true b c d = refl
regrouped false true true d = refl
regrouped false true false d = refl
regrouped false false true d = refl
regrouped false false false d = refl

pub within_is : (acts : List DeclaredAction) (u : Uid) (us : List Uid)
    → uid_is_among (actions_within acts us) u ≡ list_any (λ v. uid_eq u v || uid_is_among (descendants_of_action acts v) u) us
within_is acts u us = any_joined (uid_eq u) us (flat_map (descendants_of_action acts) us) ∙ step us
  where
    step : (vs : List Uid) → (uid_is_among vs u || uid_is_among (flat_map (descendants_of_action acts) vs) u)
        ≡ list_any (λ v. uid_eq u v || uid_is_among (descendants_of_action acts v) u) vs
    step [] = refl
    step (v ∷ vs) =
        let e = uid_eq u v in
        let below = uid_is_among (descendants_of_action acts v) u in
        ap (λ b. (e || uid_is_among vs u) || b) (any_joined (uid_eq u) (descendants_of_action acts v) (flat_map (descendants_of_action acts) vs))
        ∙ regrouped e (uid_is_among vs u) below (uid_is_among (flat_map (descendants_of_action acts) vs) u)
        ∙ ap (λ b. (e || below) || b) (step vs)
