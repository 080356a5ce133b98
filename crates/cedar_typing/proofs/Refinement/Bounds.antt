-- A bound in Strict is the bound in Permissive too.
use Rattle.std.proofs.Common.{◌≡◌, Bool, true, false, ◌&&◌, not, suc, Option, Some, None, option_map, if◌then◌else◌, nat_eq, refl, sym, ◌∙◌, ap, subst}
use borrow.Author.Tests.{eq-eqb}
use Rattle.cedar_types.specs.declared.base.types.ValidationMode.TheVariants.{Strict, Permissive}
use Rattle.cedar_types.specs.Names.{Text, text_eq}
use Rattle.cedar_types.specs.Types.{Ty, TNever, TBool, TLong, TString, TSet, TAnySet, TRecord, TEntity, TAnyEntity, TExtension, Attrs}
use Rattle.cedar_types.specs.Types.{no_attrs, attr, is_well_formed, are_well_formed}
use Rattle.cedar_types.specs.Types.Bounds.{mark_eq, ty_eq, find_attr, attr_count, is_never, closed_lub, wide_lub, with_both, with_bound, with_common}
use Rattle.cedar_types.specs.Types.Bounds.{apart_lub, both_attrs, common_attrs, lub}
use Rattle.cedar_types.proofs.Attributes.FindAttrs.{names_ascend, AllTypes, found_here, found_later, first_name_below, rest_names_ascend, name_absent, text_to}
use Rattle.cedar_types.proofs.Bounds.Upper.{both_cons, both_differ}
use Rattle.cedar_types.proofs.Comparisons.SameTypes.{and_left, and_right, mark_to}
use Rattle.cedar_typing.specs.Refinement.{StrictBoundIsKept}
use Rattle.cedar_typing.proofs.Basics.{some_is, none_is}

-- the bounds of s in Strict with types in which no name comes twice are those in Permissive
abbrev BoundsKept : Ty → Type 0
BoundsKept s = (t u : Ty) → is_well_formed t ≡ true → lub Strict s t ≡ Some u → lub Permissive s t ≡ Some u

either : (b : Bool) (a p q : Option Ty) (u : Ty) → (p ≡ Some u → q ≡ Some u) → (if b then a else p) ≡ Some u
    → (if b then a else q) ≡ Some u
either true a p q u h e = e
either false a p q u h e = h e

-- a bound is kept in Permissive if it is kept for types that differ
by_apart : (s t u : Ty) → (apart_lub Strict s t ≡ Some u → apart_lub Permissive s t ≡ Some u) → lub Strict s t ≡ Some u
    → lub Permissive s t ≡ Some u
by_apart s t u h =
    either (ty_eq s t) (Some s) _ _ u (either (is_never t) (Some s) (apart_lub Strict s t) (apart_lub Permissive s t) u h)

-- ---- sets

sets_kept : (a b : Option Ty) (u : Ty) → ((v : Ty) → a ≡ Some v → b ≡ Some v) → option_map TSet a ≡ Some u
    → option_map TSet b ≡ Some u
sets_kept None b u h e = absurd (none_is e)
sets_kept (Some v) b u h e = ap (option_map TSet) (h v refl) ∙ e

-- ---- attributes

-- each attribute that is found in ys is found in all
abbrev FoundIn : Attrs → Attrs → Type 0
FoundIn ys all = (k : Text) (a : Ty × Bool) → find_attr k ys ≡ Some a → find_attr k all ≡ Some a

-- a bound in Strict has the attributes of the bound in Permissive, and as many as either side has
abbrev SameBound : Attrs → Attrs → Attrs → Attrs → Type 0
SameBound xs ys all zs =
    (common_attrs Permissive xs all ≡ zs) × (attr_count zs ≡ attr_count xs) × (attr_count zs ≡ attr_count ys)

-- the attributes after the first are found too, because their names differ from it
others_found : (l : Text) (t : Ty) (q : Bool) (ys all : Attrs) → names_ascend (attr l t q ys) ≡ true
    → FoundIn (attr l t q ys) all → FoundIn ys all
others_found l t q ys all n h k a e = by (text_eq k l) refl
  where
    by : (b : Bool) → text_eq k l ≡ b → find_attr k all ≡ Some a
    by true f =
        let absent = name_absent l ys (first_name_below l t q ys n) in
        absurd (none_is (sym absent ∙ ap (λ j. find_attr j ys) (sym (text_to k l f)) ∙ e))
    by false f = h k a (found_later k l t q ys f ∙ e)

twice : (b : Bool) → (b && b) ≡ b
twice true = refl
twice false = refl

both_common : (xs ys zs all : Attrs) → AllTypes BoundsKept xs → names_ascend ys ≡ true → are_well_formed ys ≡ true
    → FoundIn ys all → both_attrs Strict xs ys ≡ Some zs → SameBound xs ys all zs
both_common no_attrs no_attrs zs all h n w f e = subst (SameBound no_attrs no_attrs all) (some_is e) (refl, refl, refl)
both_common no_attrs (attr l t q ys) zs all h n w f e = absurd (none_is e)
both_common (attr k s r xs) no_attrs zs all h n w f e = absurd (none_is e)
both_common (attr k s r xs) (attr l t q ys) zs all h n w f e =
    by (λ ws. both_common xs ys ws all h.1 (rest_names_ascend l t q ys n) (and_right (is_well_formed t) (are_well_formed ys) w)
    (others_found l t q ys all n f)) (text_eq k l && mark_eq r q) refl
  where
    parts : (text_eq k l && mark_eq r q) ≡ true → (v : Option Ty) (o : Option Attrs) → lub Strict s t ≡ v
        → ((ws : Attrs) → o ≡ Some ws → SameBound xs ys all ws) → with_both k v r o ≡ Some zs
        → SameBound (attr k s r xs) (attr l t q ys) all zs
    parts c None o g others d = absurd (none_is d)
    parts c (Some u) None g others d = absurd (none_is d)
    parts c (Some u) (Some ws) g others d =
        let rest = others ws refl in
        let mark = ap (λ b. r && b) (sym (mark_to r q (and_right (text_eq k l) (mark_eq r q) c))) ∙ twice r in
        let found = f k (t, q) (found_here k l t q ys (and_left (text_eq k l) (mark_eq r q) c)) in
        let bound = h.0 t u (and_left (is_well_formed t) (are_well_formed ys) w) g in
        let whole : common_attrs Permissive (attr k s r xs) all ≡ attr k u r ws =
        ap (λ a. with_common k a (lub Permissive s) r (common_attrs Permissive xs all)) found
        ∙ ap (λ o. with_bound k o (r && q) (common_attrs Permissive xs all)) bound
        ∙ (λ i. attr k u (mark i) (rest.0 i)) in
        subst (SameBound (attr k s r xs) (attr l t q ys) all) (some_is d) (whole, ap suc rest.1, ap suc rest.2)

    by : ((ws : Attrs) → both_attrs Strict xs ys ≡ Some ws → SameBound xs ys all ws) → (c : Bool)
        → (text_eq k l && mark_eq r q) ≡ c → SameBound (attr k s r xs) (attr l t q ys) all zs
    by others true c =
        parts c (lub Strict s t) (both_attrs Strict xs ys) refl others (sym (both_cons Strict k l s t r q xs ys c) ∙ e)
    by others false c = absurd (none_is (sym (both_differ Strict k l s t r q xs ys c) ∙ e))

-- ---- records

records_kept : (xs ys : Attrs) (o p : Bool) (u : Ty) → AllTypes BoundsKept xs → is_well_formed (TRecord ys p) ≡ true
    → closed_lub o p (both_attrs Strict xs ys) ≡ Some u
    → Some (wide_lub xs o ys p (common_attrs Permissive xs ys)) ≡ Some u
records_kept xs ys true p u h w e = absurd (none_is e)
records_kept xs ys false true u h w e = absurd (none_is e)
records_kept xs ys false false u h w e = by (both_attrs Strict xs ys) refl e
  where
    by : (b : Option Attrs) → both_attrs Strict xs ys ≡ b → option_map (λ zs. TRecord zs false) b ≡ Some u
        → Some (wide_lub xs false ys false (common_attrs Permissive xs ys)) ≡ Some u
    by None f d = absurd (none_is d)
    by (Some zs) f d =
        let k = both_common xs ys zs ys h (and_left (names_ascend ys) (are_well_formed ys) w)
        (and_right (names_ascend ys) (are_well_formed ys) w) (λ j a g. g) f in
        let closed : not (nat_eq (attr_count zs) (attr_count xs) && nat_eq (attr_count zs) (attr_count ys)) ≡ false =
        λ i. not (eq-eqb (attr_count zs) (attr_count xs) k.1 i && eq-eqb (attr_count zs) (attr_count ys) k.2 i) in
        ap (λ ws. Some (wide_lub xs false ys false ws)) k.0 ∙ ap (λ b. Some (TRecord zs b)) closed ∙ d

-- ---- all types

mutual
  apart_kept : (s t u : Ty) → is_well_formed t ≡ true → apart_lub Strict s t ≡ Some u → apart_lub Permissive s t ≡ Some u
  apart_kept TNever t u w e = e
  apart_kept (TBool k) t u w e = e
  apart_kept TLong t u w e = e
  apart_kept TString t u w e = e
  apart_kept (TSet s) (TSet t) u w e =
      sets_kept (lub Strict s t) (lub Permissive s t) u (λ v f. by_apart s t v (apart_kept s t v w) f) e
  apart_kept (TSet s) t u w e = e
  apart_kept TAnySet t u w e = e
  apart_kept (TRecord xs o) (TRecord ys p) u w e = records_kept xs ys o p u (all_bounds_kept xs) w e
  apart_kept (TRecord xs o) t u w e = e
  apart_kept (TEntity ps) (TEntity qs) u w e = absurd (none_is e)
  apart_kept (TEntity ps) t u w e = e
  apart_kept TAnyEntity t u w e = e
  apart_kept (TExtension n) t u w e = e

  all_bounds_kept : (xs : Attrs) → AllTypes BoundsKept xs
  all_bounds_kept no_attrs = tt
  all_bounds_kept (attr k s r xs) = (λ t u w e. by_apart s t u (apart_kept s t u w) e, all_bounds_kept xs)

pub strict_bound_is_kept : StrictBoundIsKept
strict_bound_is_kept s t u w e = by_apart s t u (apart_kept s t u w) e
