-- Lists of types: in order they have the same types, and the bound of all keeps each property that
-- the bound of two keeps.
use Rattle.std.proofs.Common.{◌≡◌, inl, inr, Bool, true, false, List, [], ◌∷◌, Option, Some, None, refl, sym, ap, subst}
use Rattle.std.specs.declared.cmp.Ordering.{Ordering}
use Rattle.std.specs.declared.cmp.Ordering.TheVariants.{Less, Equal, Greater}
use Rattle.std.specs.Cmp.Lexicographic.{slice_cmp}
use Rattle.std.specs.Ordering.{nat_cmp, ordering_then, match_ordering}
use Rattle.std.proofs.lemmas.Map.Lookups.{exact_bytes}
use Rattle.cedar_types.specs.declared.base.types.BoolType.{BoolType}
use Rattle.cedar_types.specs.declared.base.types.BoolType.TheVariants.{AnyBool, True, False}
use Rattle.cedar_types.specs.declared.base.types.ValidationMode.{ValidationMode}
use Rattle.cedar_types.specs.Names.{Path, text_cmp, path_cmp}
use Rattle.cedar_types.specs.Types.{Ty, TNever, TBool, TLong, TString, TSet, TAnySet, TRecord, TEntity, TAnyEntity, TExtension, Attrs}
use Rattle.cedar_types.specs.Types.{no_attrs, attr}
use Rattle.cedar_types.specs.Types.Order.{bool_rank, open_rank, required_rank, ty_cmp, attrs_cmp, insert_ty, insert_tys, in_order}
use Rattle.cedar_types.specs.Types.Bounds.{is_strict, lub, go_on, fold_lub, list_lub}
use Rattle.cedar_types.specs.Values.{Value, HasType}
use Rattle.cedar_types.proofs.Names.Unions.{tied_paths}
use Rattle.cedar_typing.specs.Evaluation.Conformance.{IsOneOf}
use Rattle.cedar_typing.proofs.Basics.{some_is}
use Rattle.cedar_typing.proofs.Bounds.Kept.{right_kept}
use Rattle.cedar_typing.proofs.Bounds.Values.{lub_left}
use Rattle.cedar_typing.proofs.Basics.Members.{AreAll}
use Rattle.cedar_typing.proofs.KeptTypes.Bounds.{kept_lub}
use Rattle.cedar_typing.proofs.KeptTypes.Keeping.{HasKept}
use Rattle.cedar_typing.proofs.KeptTypes.Types.{keeping, KeptIn, strict_if}

-- ---- types that compare equal are the same

first_ties : (a b : Ordering) → ordering_then a b ≡ Equal → a ≡ Equal
first_ties Less b h = cc
first_ties Equal b h = refl
first_ties Greater b h = cc

then_ties : (a b : Ordering) → ordering_then a b ≡ Equal → b ≡ Equal
then_ties Less b h = cc
then_ties Equal b h = h
then_ties Greater b h = cc

path_lists_same : (ps qs : List Path) → slice_cmp path_cmp ps qs ≡ Equal → ps ≡ qs
path_lists_same [] [] h = refl
path_lists_same [] (q ∷ qs) h = cc
path_lists_same (p ∷ ps) [] h = cc
path_lists_same (p ∷ ps) (q ∷ qs) h =
    let first = tied_paths p q (first_ties (path_cmp p q) (slice_cmp path_cmp ps qs) h) in
    let others = path_lists_same ps qs (then_ties (path_cmp p q) (slice_cmp path_cmp ps qs) h) in
    λ i. first i ∷ others i

kinds_same : (j k : BoolType) → nat_cmp (bool_rank j) (bool_rank k) ≡ Equal → j ≡ k
kinds_same AnyBool AnyBool h = refl
kinds_same True True h = refl
kinds_same False False h = refl
kinds_same j k h = cc

open_same : (o p : Bool) → nat_cmp (open_rank o) (open_rank p) ≡ Equal → o ≡ p
open_same true true h = refl
open_same false false h = refl
open_same true false h = cc
open_same false true h = cc

required_same : (r q : Bool) → nat_cmp (required_rank r) (required_rank q) ≡ Equal → r ≡ q
required_same true true h = refl
required_same false false h = refl
required_same true false h = cc
required_same false true h = cc

mutual
  types_same : (s t : Ty) → ty_cmp s t ≡ Equal → s ≡ t
  types_same TNever TNever h = refl
  types_same (TBool j) (TBool k) h = ap TBool (kinds_same j k h)
  types_same TLong TLong h = refl
  types_same TString TString h = refl
  types_same (TSet s) (TSet t) h = ap TSet (types_same s t h)
  types_same TAnySet TAnySet h = refl
  types_same (TRecord xs o) (TRecord ys p) h =
      let parts = attrs_same xs ys (first_ties (attrs_cmp xs ys) (nat_cmp (open_rank o) (open_rank p)) h) in
      let marks = open_same o p (then_ties (attrs_cmp xs ys) (nat_cmp (open_rank o) (open_rank p)) h) in
      λ i. TRecord (parts i) (marks i)
  types_same (TEntity ps) (TEntity qs) h = ap TEntity (path_lists_same ps qs h)
  types_same TAnyEntity TAnyEntity h = refl
  types_same (TExtension m) (TExtension n) h = ap TExtension (tied_paths m n h)
  types_same s t h = cc

  attrs_same : (xs ys : Attrs) → attrs_cmp xs ys ≡ Equal → xs ≡ ys
  attrs_same no_attrs no_attrs h = refl
  attrs_same no_attrs (attr l t q ys) h = cc
  attrs_same (attr k s r xs) no_attrs h = cc
  attrs_same (attr k s r xs) (attr l t q ys) h =
      let marks = nat_cmp (required_rank r) (required_rank q) in
      let parts = ordering_then (ty_cmp s t) marks in
      let first = first_ties (ordering_then (text_cmp k l) parts) (attrs_cmp xs ys) h in
      let typed = then_ties (text_cmp k l) parts first in
      let name = exact_bytes k l (first_ties (text_cmp k l) parts first) in
      let type = types_same s t (first_ties (ty_cmp s t) marks typed) in
      let mark = required_same r q (then_ties (ty_cmp s t) marks typed) in
      let others = attrs_same xs ys (then_ties (ordering_then (text_cmp k l) parts) (attrs_cmp xs ys) h) in
      λ i. attr (name i) (type i) (mark i) (others i)

-- ---- the ordered list has the members of the list, and no others

-- the lists that may result when a type is put before, at or after the first one
module _ (P : List Ty → Type 0) where
  either_way : (o : Ordering) (xs ys zs : List Ty) → P xs → (o ≡ Equal → P ys) → P zs → P (match_ordering o xs ys zs)
  either_way Less xs ys zs f g h = f
  either_way Equal xs ys zs f g h = g refl
  either_way Greater xs ys zs f g h = h

put_in : (us : List Ty) (t : Ty) → IsOneOf t (insert_ty us t)
put_in [] t = inl refl
put_in (u ∷ us) t =
    either_way (IsOneOf t) (ty_cmp t u) (t ∷ u ∷ us) (u ∷ us) (u ∷ insert_ty us t) (inl refl)
    (λ e. inl (types_same t u e)) (inr (put_in us t))

in_either : (u s : Ty) (us vs : List Ty) → (IsOneOf s us → IsOneOf s vs) → IsOneOf s (u ∷ us) → IsOneOf s (u ∷ vs)
in_either u s us vs f (inl e) = inl e
in_either u s us vs f (inr h) = inr (f h)

still_in : (us : List Ty) (s t : Ty) → IsOneOf s us → IsOneOf s (insert_ty us t)
still_in [] s t h = absurd h
still_in (u ∷ us) s t h =
    either_way (IsOneOf s) (ty_cmp t u) (t ∷ u ∷ us) (u ∷ us) (u ∷ insert_ty us t)
    (inr h) (λ e. h) (in_either u s us (insert_ty us t) (still_in us s t) h)

stays_in : (us ts : List Ty) (s : Ty) → IsOneOf s us → IsOneOf s (insert_tys us ts)
stays_in us [] s h = h
stays_in us (t ∷ ts) s h = stays_in (insert_ty us t) ts s (still_in us s t h)

each_in : (us ts : List Ty) (s : Ty) → IsOneOf s ts → IsOneOf s (insert_tys us ts)
each_in us [] s h = absurd h
each_in us (t ∷ ts) s (inl e) = stays_in (insert_ty us t) ts s (subst (λ z. IsOneOf z (insert_ty us t)) (sym e) (put_in us t))
each_in us (t ∷ ts) s (inr h) = each_in (insert_ty us t) ts s h

-- a type of the list is in the ordered list
pub in_order_has : (ts : List Ty) (s : Ty) → IsOneOf s ts → IsOneOf s (in_order ts)
in_order_has ts s h = each_in [] ts s h

module _ (P : Ty → Type 0) where
  with_one : (t : Ty) (us : List Ty) → P t → AreAll P us → AreAll P (t ∷ us)
  with_one t us p f s (inl e) = subst P (sym e) p
  with_one t us p f s (inr h) = f s h

  put_all : (us : List Ty) (t : Ty) → P t → AreAll P us → AreAll P (insert_ty us t)
  put_all [] t p f = with_one t [] p f
  put_all (u ∷ us) t p f =
      either_way (AreAll P) (ty_cmp t u) (t ∷ u ∷ us) (u ∷ us) (u ∷ insert_ty us t)
      (with_one t (u ∷ us) p f) (λ e. f) (with_one u (insert_ty us t) (f u (inl refl)) (put_all us t p (λ s h. f s (inr h))))

  each_all : (us ts : List Ty) → AreAll P us → AreAll P ts → AreAll P (insert_tys us ts)
  each_all us [] f g = f
  each_all us (t ∷ ts) f g = each_all (insert_ty us t) ts (put_all us t (g t (inl refl)) f) (λ s h. g s (inr h))

  -- a statement on each type of a list holds of each type of the ordered list
  pub in_order_all : (ts : List Ty) → AreAll P ts → AreAll P (in_order ts)
  in_order_all ts f = each_all [] ts (λ s h. absurd h) f

-- ---- the bound of a list

-- the bound of the first types, with which the fold goes on
went_on : (bound : Option Ty) (u : Ty) (P : Type 0) (next : Ty → Option Ty) → ((z : Ty) → bound ≡ Some z → next z ≡ Some u → P)
    → go_on bound next ≡ Some u → P
went_on None u P next f e = cc
went_on (Some z) u P next f e = f z refl e

-- a property that the bound of two types keeps is kept by that of several
module _ (m : ValidationMode) (P : Ty → Type 0) (kept : (s t u : Ty) → lub m s t ≡ Some u → P s → P t → P u) where
  folded_keeps : (t u : Ty) (ts : List Ty) → fold_lub m t ts ≡ Some u → P t → AreAll P ts → P u
  folded_keeps t u [] e p f = subst P (some_is e) p
  folded_keeps t u (s ∷ ts) e p f =
      went_on (lub m t s) u (P u) (λ z. fold_lub m z ts)
      (λ z b k. folded_keeps z u ts k (kept t s z b p (f s (inl refl))) (λ r h. f r (inr h))) e

  pub bound_keeps : (t u : Ty) (ts : List Ty) → list_lub m (t ∷ ts) ≡ Some u → AreAll P (t ∷ ts) → P u
  bound_keeps t u ts e f = folded_keeps t u ts e (f t (inl refl)) (λ s h. f s (inr h))

module _ (strictly : Bool) (m : ValidationMode) (strict : is_strict m ≡ strictly) (v : Value) where
  first_under : (t u : Ty) (ts : List Ty) → fold_lub m t ts ≡ Some u → HasType t v → HasType u v
  first_under t u [] e h = subst (λ z. HasType z v) (some_is e) h
  first_under t u (s ∷ ts) e h =
      went_on (lub m t s) u (HasType u v) (λ z. fold_lub m z ts) (λ z b k. first_under z u ts k (lub_left m t s z b v h)) e

  abbrev Kept : Ty → Type 0
  Kept = KeptIn strictly

  bound_kept : (s t u : Ty) → lub m s t ≡ Some u → Kept s → Kept t → Kept u
  bound_kept s t u e n k = subst (HasKept Kept) e (kept_lub (keeping strictly) m (strict_if strictly m strict) s t n k)

  other_under : (t u s : Ty) (ts : List Ty) → fold_lub m t ts ≡ Some u → Kept t → AreAll Kept ts → IsOneOf s ts → HasType s v → HasType u v
  other_under t u s [] e n f i h = absurd i
  other_under t u s (r ∷ ts) e n f (inl q) h =
      let k = subst (λ z. HasType z v) q h in
      went_on (lub m t r) u (HasType u v) (λ z. fold_lub m z ts)
      (λ z b g. first_under z u ts g (right_kept strictly m strict t r z n (f r (inl refl)) b v k)) e
  other_under t u s (r ∷ ts) e n f (inr i) h =
      went_on (lub m t r) u (HasType u v) (λ z. fold_lub m z ts)
      (λ z b g. other_under z u s ts g (bound_kept t r z b n (f r (inl refl))) (λ x j. f x (inr j)) i h) e

  -- a value of one of the types has their bound, if they are kept
  pub bound_has : (ts : List Ty) (u s : Ty) → list_lub m ts ≡ Some u → AreAll Kept ts → IsOneOf s ts → HasType s v → HasType u v
  bound_has [] u s e f i h = absurd i
  bound_has (t ∷ ts) u s e f (inl q) h = first_under t u ts e (subst (λ z. HasType z v) q h)
  bound_has (t ∷ ts) u s e f (inr i) h = other_under t u s ts e (f t (inl refl)) (λ x j. f x (inr j)) i h
