-- The type of a set is kept if those of its elements are.
use Rattle.std.proofs.Common.{◌≡◌, Bool, true, false, List, [], ◌∷◌, Option, Some, None, if◌then◌else◌, refl, subst}
use Rattle.cedar_types.specs.Types.{Ty}
use Rattle.cedar_types.specs.Expressions.View.{Written}
use Rattle.cedar_types.specs.Types.Bounds.{is_strict, lub, go_on, fold_lub, list_lub}
use Rattle.cedar_types.specs.Errors.{empty_set_forbidden}
use Rattle.cedar_typing.specs.Eager.{refuses}
use Rattle.cedar_typing.specs.Rules.Sets.{with_type, all_types, set_by_bound, set_of_types, set_form}
use Rattle.cedar_typing.specs.TypeEnv.{TypeEnv, finding}
use Rattle.cedar_typing.proofs.Basics.{some_is}
use Rattle.cedar_typing.proofs.KeptTypes.Eager.{decided_type, KeptForm}
use Rattle.cedar_typing.proofs.KeptTypes.Keeping.{HasKept, AreKept, AllKept, IsKeeping}

-- ---- several types

module _ (Kept : Ty → Type 0) where
  next_kept : (t : Option Ty) (found : Option (List Ty)) (us : List Ty) → HasKept Kept t
      → ((vs : List Ty) → found ≡ Some vs → AreKept Kept vs) → with_type t found ≡ Some us → AreKept Kept us
  next_kept None None us h f e = cc
  next_kept None (Some vs) us h f e = cc
  next_kept (Some t) None us h f e = cc
  next_kept (Some t) (Some vs) us h f e = subst (AreKept Kept) (some_is e) (h, f vs refl)

  pub found_kept : (ts : List (Option Ty)) (us : List Ty) → AllKept Kept ts → all_types ts ≡ Some us → AreKept Kept us
  found_kept [] us h e = subst (AreKept Kept) (some_is e) tt
  found_kept (t ∷ ts) us h e = next_kept t (all_types ts) us h.0 (λ vs. found_kept ts vs h.1) e

-- the list of types of some operands is not empty
some_types : (t : Option Ty) (found : Option (List Ty)) → with_type t found ≡ Some [] → ⊥
some_types None None e = cc
some_types None (Some ts) e = cc
some_types (Some t) None e = cc
some_types (Some t) (Some ts) e = cc

module _ (Kept : Ty → Type 0) (env : TypeEnv) (keeps : IsKeeping Kept env) (m : Written) where
  -- ---- the bound of several types

  gone_on_kept : (bound : Option Ty) (next : Ty → Option Ty) → HasKept Kept bound
      → ((z : Ty) → Kept z → HasKept Kept (next z)) → HasKept Kept (go_on bound next)
  gone_on_kept None next h f = tt
  gone_on_kept (Some z) next h f = f z h

  fold_kept : (t : Ty) (ts : List Ty) → Kept t → AreKept Kept ts → HasKept Kept (fold_lub env.mode t ts)
  fold_kept t [] n h = n
  fold_kept t (s ∷ ts) n h =
      gone_on_kept (lub env.mode t s) (λ z. fold_lub env.mode z ts) (keeps.bounds t s n h.0) (λ z k. fold_kept z ts k h.1)

  by_bound_kept : (us : List Ty) (bound : Option Ty) → HasKept Kept bound → HasKept Kept (decided_type (set_by_bound env m.place us bound))
  by_bound_kept us (Some u) h = keeps.sets u h
  by_bound_kept us None h = tt

  types_kept : (t : Option Ty) (ts : List (Option Ty)) (found : Option (List Ty)) → AllKept Kept (t ∷ ts) → all_types (t ∷ ts) ≡ found
      → HasKept Kept (decided_type (set_of_types env m.place found))
  types_kept t ts None h e = tt
  types_kept t ts (Some []) h e = absurd (some_types t (all_types ts) e)
  types_kept t ts (Some (u ∷ us)) h e =
      let all = found_kept Kept (t ∷ ts) (u ∷ us) h e in
      by_bound_kept (u ∷ us) (list_lub env.mode (u ∷ us)) (fold_kept u us all.0 all.1)

  empty_kept : (b : Bool) → is_strict env.mode ≡ b
      → HasKept Kept (decided_type
      (if b then refuses None (finding env m.place empty_set_forbidden ∷ [])
      else set_of_types env m.place (Some [])))
  empty_kept true e = tt
  empty_kept false e = keeps.empty_sets e

  pub set_kept : KeptForm Kept (set_form env m)
  set_kept [] h = empty_kept (is_strict env.mode) refl
  set_kept (t ∷ ts) h = types_kept t ts (all_types (t ∷ ts)) h refl
