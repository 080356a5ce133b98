-- Bounds are the same in Permissive and in Partial.
use Rattle.std.proofs.Common.{◌≡◌, List, [], ◌∷◌, Some, refl}
use Rattle.cedar_types.specs.declared.base.types.ValidationMode.TheVariants.{Permissive, Partial}
use Rattle.cedar_types.specs.Types.{Ty, TNever, TBool, TLong, TString, TSet, TAnySet, TRecord, TEntity, TAnyEntity, TExtension, Attrs}
use Rattle.cedar_types.specs.Types.{no_attrs, attr}
use Rattle.cedar_types.specs.Types.Bounds.{find_attr, set_lub, wide_lub, with_common, lub_by, apart_lub, common_attrs, lub, go_on, fold_lub, list_lub}

mutual
  apart_same : (s t : Ty) → apart_lub Partial s t ≡ apart_lub Permissive s t
  apart_same TNever t = refl
  apart_same (TBool k) t = refl
  apart_same TLong t = refl
  apart_same TString t = refl
  apart_same (TSet s) t = λ i. set_lub (lub_by (λ u. apart_same s u i) s) t
  apart_same TAnySet t = refl
  apart_same (TRecord xs o) (TRecord ys p) = λ i. Some (wide_lub xs o ys p (common_same xs ys i))
  apart_same (TRecord xs o) t = refl
  apart_same (TEntity ps) (TEntity qs) = refl
  apart_same (TEntity ps) t = refl
  apart_same TAnyEntity t = refl
  apart_same (TExtension n) t = refl

  common_same : (xs ys : Attrs) → common_attrs Partial xs ys ≡ common_attrs Permissive xs ys
  common_same no_attrs ys = refl
  common_same (attr k s r xs) ys = λ i. with_common k (find_attr k ys) (lub_by (λ u. apart_same s u i) s) r (common_same xs ys i)

pub bound_same : (s t : Ty) → lub Partial s t ≡ lub Permissive s t
bound_same s t = λ i. lub_by (λ u. apart_same s u i) s t

fold_same : (u : Ty) (ts : List Ty) → fold_lub Partial u ts ≡ fold_lub Permissive u ts
fold_same u [] = refl
fold_same u (t ∷ ts) = λ i. go_on (bound_same u t i) (λ v. fold_same v ts i)

pub list_same : (ts : List Ty) → list_lub Partial ts ≡ list_lub Permissive ts
list_same [] = refl
list_same (t ∷ ts) = fold_same t ts
