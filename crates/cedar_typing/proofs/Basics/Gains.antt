-- Sets that gain members, by the equality of their keys and by the views of these.
use Rattle.std.proofs.Common.{◌≡◌, Bool, true, false, ◌||◌, cond, true≢false, List, [], ◌∷◌, ◌++◌, map, ◌⊎◌, inl, inr, refl, sym, subst}
use Rattle.std.proofs.Common.{◌∙◌}
use Rattle.std.specs.Bool.{Decides}
use Rattle.std.specs.Set.{is_member, IsUnion}
use Rattle.cedar_typing.specs.Evaluation.Conformance.{IsOneOf}
use Rattle.cedar_typing.specs.PolicyCheck.Outcome.{Adds}
use Rattle.cedar_typing.proofs.Basics.{or_left, or_right, or_cases}
use Rattle.cedar_typing.proofs.Basics.Members.{in_left, in_right}

pub in_either : {A : Type 0} (x : A) (xs ys : List A) → IsOneOf x (xs ++ ys) → IsOneOf x xs ⊎ IsOneOf x ys
in_either x [] ys h = inr h
in_either x (y ∷ xs) ys (inl e) = inl (inl e)
in_either x (y ∷ xs) ys (inr h) = later (in_either x xs ys h)
  where
    later : IsOneOf x xs ⊎ IsOneOf x ys → IsOneOf x (y ∷ xs) ⊎ IsOneOf x ys
    later (inl k) = inl (inr k)
    later (inr k) = inr k

same_bools : (a b : Bool) → (a ≡ true → b ≡ true) → (b ≡ true → a ≡ true) → a ≡ b
same_bools true b f g = sym (f refl)
same_bools false true f g = g refl
same_bools false false f g = refl

module _ {K X : Type 0} (eq : K → K → Bool) (view : K → X) (decides : (a b : K) → Decides (eq a b) (view a ≡ view b)) where
  either_order : (a b : K) → eq a b ≡ eq b a
  either_order a b = same_bools (eq a b) (eq b a)
      (λ h. (decides b a).1 (sym ((decides a b).0 h)))
      (λ h. (decides a b).1 (sym ((decides b a).0 h)))

  member_in : (q : K) (ks : List K) → is_member eq ks q ≡ true → IsOneOf (view q) (map view ks)
  member_in q [] h = absurd (true≢false (sym h))
  member_in q (k ∷ ks) h =
      or_cases (eq q k) (is_member eq ks q) (IsOneOf (view q) (map view (k ∷ ks)))
      (λ e. inl ((decides q k).0 e)) (λ e. inr (member_in q ks e)) h

  in_member : (q : K) (ks : List K) → IsOneOf (view q) (map view ks) → is_member eq ks q ≡ true
  in_member q [] h = absurd h
  in_member q (k ∷ ks) (inl e) = or_left (eq q k) (is_member eq ks q) ((decides q k).1 e)
  in_member q (k ∷ ks) (inr h) = or_right (eq q k) (is_member eq ks q) (in_member q ks h)

  -- a member of the viewed list is the view of a key
  source : (x : X) (ks : List K) → IsOneOf x (map view ks) → (q : K) × (x ≡ view q)
  source x [] h = absurd h
  source x (k ∷ ks) (inl e) = (k, e)
  source x (k ∷ ks) (inr h) = source x ks h

  member_of : (x : X) (q : K) (ks : List K) → x ≡ view q → IsOneOf x (map view ks) → is_member eq ks q ≡ true
  member_of x q ks e h = in_member q ks (subst (λ y. IsOneOf y (map view ks)) e h)

  in_of : (x : X) (q : K) (ks : List K) → x ≡ view q → is_member eq ks q ≡ true → IsOneOf x (map view ks)
  in_of x q ks e h = subst (λ y. IsOneOf y (map view ks)) (sym e) (member_in q ks h)

  module _ (old these new : List K) (u : IsUnion eq old these new) where
    gained : (x : X) → IsOneOf x (map view new) → IsOneOf x (map view old ++ map view these)
    gained x h =
        let s = source x new h in
        or_cases (is_member eq old s.0) (is_member eq these s.0) (IsOneOf x (map view old ++ map view these))
        (λ k. in_left x (map view old) (map view these) (in_of x s.0 old s.1 k))
        (λ k. in_right x (map view old) (map view these) (in_of x s.0 these s.1 k))
        (sym (u s.0) ∙ member_of x s.0 new s.1 h)

    kept : (x : X) → IsOneOf x (map view old ++ map view these) → IsOneOf x (map view new)
    kept x h = each (in_either x (map view old) (map view these) h)
      where
        each : IsOneOf x (map view old) ⊎ IsOneOf x (map view these) → IsOneOf x (map view new)
        each (inl k) =
            let s = source x old k in
            in_of x s.0 new s.1 (u s.0 ∙ or_left (is_member eq old s.0) (is_member eq these s.0) (member_of x s.0 old s.1 k))
        each (inr k) =
            let s = source x these k in
            in_of x s.0 new s.1 (u s.0 ∙ or_right (is_member eq old s.0) (is_member eq these s.0) (member_of x s.0 these s.1 k))

    -- a union of keys is a union of their views
    pub union_adds : Adds (map view old) (map view these) (map view new)
    union_adds x = (gained x, kept x)

  -- a key that is added
  pub put_adds : (k : K) (old new : List K)
      → ((q : K) → is_member eq new q ≡ cond (eq k q) true (is_member eq old q)) → IsUnion eq old (k ∷ []) new
  put_adds k old new h q = h q ∙ one (eq k q) (eq q k) (is_member eq old q) (either_order k q)
    where
      one : (a b m : Bool) → a ≡ b → cond a true m ≡ (m || (b || false))
      one true true true e = refl
      one true true false e = refl
      one true false m e = absurd (true≢false e)
      one false true m e = absurd (true≢false (sym e))
      one false false true e = refl
      one false false false e = refl

pub adds_nothing : {A : Type 0} (old new : List A) → ((x : A) → IsOneOf x new → IsOneOf x old)
    → ((x : A) → IsOneOf x old → IsOneOf x new) → Adds old [] new
adds_nothing {A = A} old new f g x = (λ h. in_left x old [] (f x h), λ h. back x (in_either x old [] h))
  where
    back : (x : A) → IsOneOf x old ⊎ IsOneOf x [] → IsOneOf x new
    back x (inl k) = g x k
    back x (inr k) = absurd k
