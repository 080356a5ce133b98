-- Sets of ids that share their members: their order, a search in them, and one id more.
use Rattle.std.proofs.Common.{◌≡◌, refl, sym, ap, subst, ◌∙◌, ℕ, ◌<◌, Bool, true, false, ◌||◌, List, [], ◌∷◌, ◌++◌, length, Result, Ok, Err, is_ok, true≢false, if◌then◌else◌, arith}
use Rattle.std.specs.Cmp.{IsTotalOrder, on_total, then_total, tied_itself}
use Rattle.std.specs.Cmp.Lexicographic.{nat_list_cmp_total}
use Rattle.std.specs.List.{AllByRecursion, list_any}
use Rattle.std.specs.List.Sorted.{IsStrictlySortedBy, IsBinarySearchResult, IsSearchInRange}
use Rattle.std.specs.Ordering.{is_eq, is_lt}
use Rattle.std.specs.Rc.{rc_with_value}
use Rattle.std.specs.declared.alloc.Global.{Global}
use Rattle.std.specs.declared.cmp.Ordering.{Ordering}
use Rattle.std.specs.declared.cmp.Ordering.TheVariants.{Less, Equal, Greater}
use Rattle.std.specs.declared.rc.Rc.{Rc}
use Rattle.cedar_types.specs.Capability.Entries.{HasOneMore, IsPoint}
use Rattle.cedar_types.specs.Lemmas.Comparisons.{uid_same}
use Rattle.cedar_types.specs.Names.{Uid, uid_of, uid_eq, uid_cmp}
use Rattle.cedar_types.specs.Names.Comparisons.{entity_uid_cmp}
use Rattle.cedar_types.specs.Schemas.{uid_is_among}
use Rattle.cedar_types.specs.declared.base.names.entities.EntityUID.{EntityUID}
use Rattle.cedar_types.proofs.Entries.Ascending.{SortedBy}
use Rattle.cedar_types.proofs.Entries.Basics.{any_push}
use Rattle.cedar_types.proofs.Entries.Searches.{search_is}
use Rattle.cedar_types.proofs.Names.Ids.{uid_ties, uids_cmp}
use Rattle.cedar_types.proofs.Names.Unions.{path_total}
use Rattle.cedar_conformance.specs.Ids.{shared_id, ids_of, shared_cmp, AddsId}

-- ---- the order

uid_total : IsTotalOrder uid_cmp
uid_total = then_total (on_total (λ u. u.entity_type) path_total) (on_total (λ u. u.eid) nat_list_cmp_total)

derived_total : IsTotalOrder entity_uid_cmp
derived_total = subst IsTotalOrder (λ i a b. sym (uids_cmp a b) i) (on_total uid_of uid_total)

pub shared_total : IsTotalOrder shared_cmp
shared_total = on_total (λ r. r.value) derived_total

same_id : (x y : Rc EntityUID Global) → shared_cmp x y ≡ Equal → shared_id x ≡ shared_id y
same_id x y e =
    uid_same.to (shared_id x) (shared_id y)
    (uid_ties (shared_id x) (shared_id y) ∙ ap is_eq (sym (uids_cmp x.value y.value) ∙ e))

-- equality with this id separates two ids as the order does
point : (v : Uid) → IsPoint shared_cmp (λ r. uid_eq v (shared_id r))
point v = record {
  alike = λ x y e. ap (uid_eq v) (same_id x y e);
  alone = λ x y p q.
      uids_cmp x.value y.value
      ∙ ap (uid_cmp (shared_id x)) (sym (uid_same.to v (shared_id y) q) ∙ uid_same.to v (shared_id x) p)
      ∙ tied_itself uid_total (shared_id x);
}

-- ---- a search

asked : (x : Rc EntityUID Global) (rs : List (Rc EntityUID Global))
    → list_any (λ r. is_eq (shared_cmp x r)) rs ≡ uid_is_among (ids_of rs) (shared_id x)
asked x [] = refl
asked x (r ∷ rs) =
    λ i. ((ap is_eq (uids_cmp x.value r.value) ∙ sym (uid_ties (shared_id x) (shared_id r))) i) || asked x rs i

pub searched : (rs : List (Rc EntityUID Global)) (id : EntityUID) (r : Result ℕ ℕ) → SortedBy shared_cmp rs
    → IsSearchInRange r (length rs) → IsBinarySearchResult (λ own. entity_uid_cmp own.value id) rs r
    → is_ok r ≡ uid_is_among (ids_of rs) (uid_of id)
searched [] id (Ok i) s l h = let no : ⊥ = omega arith in absurd no
searched [] id (Err i) s l h = refl
searched (k ∷ ks) id r s l h =
    search_is shared_total (k ∷ ks) (rc_with_value k id) r s l h ∙ asked (rc_with_value k id) (k ∷ ks)

-- ---- one id more

named : (v : Uid) (rs : List (Rc EntityUID Global))
    → uid_is_among (ids_of rs) v ≡ list_any (λ r. uid_eq v (shared_id r)) rs
named v [] = refl
named v (r ∷ rs) = ap (λ b. uid_eq v (shared_id r) || b) (named v rs)

pub adds : (xs : List (Rc EntityUID Global)) (x : Rc EntityUID Global) (zs : List (Rc EntityUID Global))
    → HasOneMore shared_cmp xs x zs → AddsId (ids_of xs) (shared_id x) (ids_of zs)
adds xs x zs h v =
    named v zs ∙ h (λ r. uid_eq v (shared_id r)) (point v) ∙ ap (λ b. b || uid_eq v (shared_id x)) (sym (named v xs))

pub pushed : (xs : List (Rc EntityUID Global)) (x : Rc EntityUID Global)
    → AddsId (ids_of xs) (shared_id x) (ids_of (xs ++ x ∷ []))
pushed xs x = adds xs x (xs ++ x ∷ []) (λ p q. any_push p xs x)

-- a property of all elements holds of the last one
all_last : {X : Type 0} (P : X → Type 0) (xs : List X) (y : X) → AllByRecursion P (xs ++ y ∷ []) → P y
all_last P [] y h = h.0
all_last P (x ∷ xs) y h = all_last P xs y h.1

pub above_all : (rs : List (Rc EntityUID Global)) (y x : Rc EntityUID Global) → SortedBy shared_cmp (rs ++ y ∷ [])
    → shared_cmp y x ≡ Less → AllByRecursion (λ own. shared_cmp own x ≡ Less) (rs ++ y ∷ [])
unfolding IsStrictlySortedBy
above_all [] y x s e = (e, tt)
above_all (r ∷ rs) y x s e =
    (shared_total.trans r y x (all_last (λ z. shared_cmp r z ≡ Less) rs y s.0) e, above_all rs y x s.1 e)

-- an order that tests as less is less
pub lt_less : (o : Ordering) → is_lt o ≡ true → o ≡ Less
lt_less Less h = refl
lt_less Equal h = absurd (true≢false (sym h))
lt_less Greater h = absurd (true≢false (sym h))

-- either of two elements that pass passes, with any choice
pub either : {A : Type 0} (P : A → Type 0) (b : Bool) (x y : A) → P x → P y → P (if b then x else y)
either P true x y p q = p
either P false x y p q = q
