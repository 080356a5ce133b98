-- In Strict a value of the right of two types has their bound, whether or not the types are
-- well-formed.
use Rattle.std.proofs.Common.{◌≡◌, Bool, true, false, ◌&&◌, List, Option, Some, if◌then◌else◌, refl, sym, ap, subst, ◌∙◌}
use Rattle.cedar_types.specs.declared.base.types.ValidationMode.{ValidationMode}
use Rattle.cedar_types.specs.declared.base.types.ValidationMode.TheVariants.{Strict}
use Rattle.cedar_types.specs.Names.{Text, Path, text_eq}
use Rattle.cedar_types.specs.Types.{Ty, TNever, TBool, TLong, TString, TSet, TAnySet, TRecord, TEntity, TAnyEntity, TExtension, Attrs}
use Rattle.cedar_types.specs.Types.{no_attrs, attr, attr_names}
use Rattle.cedar_types.specs.Types.Bounds.{mark_eq, ty_eq, is_strict, is_never, bool_lub, any_set_lub, entity_lub, any_entity_lub}
use Rattle.cedar_types.specs.Types.Bounds.{with_both, apart_lub, both_attrs, lub}
use Rattle.cedar_types.specs.Values.{Value, Entries, entry_at, VRecord, HasAttr, IsClosedBy, HasType, HasAttrs}
use Rattle.cedar_types.proofs.Comparisons.SameTypes.{and_left, and_right, ty_to, text_decides, mark_to}
use Rattle.cedar_typing.proofs.Bounds.Values.{Under, any_set, any_bool, any_entity, set_under, UnderAttrs, both_under, both_names}
use Rattle.cedar_typing.proofs.Bounds.Values.{if_under, closed_under}

moved_attr : (k l : Text) (r q : Bool) (P : Value → Type 0) (es : Entries) → (text_eq k l && mark_eq r q) ≡ true
    → HasAttr q P (entry_at l es) → HasAttr r P (entry_at k es)
moved_attr k l r q P es e h =
    let same : k ≡ l = (text_decides k l).0 (and_left (text_eq k l) (mark_eq r q) e) in
    let mark : r ≡ q = mark_to r q (and_right (text_eq k l) (mark_eq r q) e) in
    subst (λ x. HasAttr x P (entry_at k es)) (sym mark) (subst (λ x. HasAttr q P (entry_at x es)) (sym same) h)

if_under_type : (b : Bool) (o p : Option Ty) (v : Value) → (b ≡ true → Under o v) → Under p v → Under (if b then o else p) v
if_under_type true o p v h g = h refl
if_under_type false o p v h g = g

never_has : (t : Ty) (v : Value) → is_never t ≡ true → HasType t v → ⊥
never_has TNever v e h = h
never_has t v e h = cc

from_apart_right : (m : ValidationMode) (s t : Ty) (v : Value) → HasType t v → Under (apart_lub m s t) v → Under (lub m s t) v
from_apart_right m s t v h g =
    if_under_type (ty_eq s t) (Some s) (if is_never t then Some s else apart_lub m s t) v
    (λ e. subst (λ x. HasType x v) (sym (ty_to s t e)) h)
    (if_under_type (is_never t) (Some s) (apart_lub m s t) v (λ e. absurd (never_has t v e h)) g)

bool_right : (t : Ty) (v : Value) → HasType t v → Under (bool_lub t) v
bool_right (TBool k) v h = any_bool k v h
bool_right t v h = tt

any_set_right : (t : Ty) (v : Value) → HasType t v → Under (any_set_lub t) v
any_set_right (TSet t) v h = any_set t v h
any_set_right t v h = tt

entity_right : (ps : List Path) (t : Ty) (v : Value) → HasType t v → Under (entity_lub Strict ps t) v
entity_right ps TAnyEntity v h = h
entity_right ps t v h = tt

any_entity_right : (t : Ty) (v : Value) → HasType t v → Under (any_entity_lub t) v
any_entity_right (TEntity qs) v h = any_entity qs v h
any_entity_right t v h = tt

mutual
  apart_right : (s t : Ty) (v : Value) → HasType t v → Under (apart_lub Strict s t) v
  apart_right TNever t v h = h
  apart_right (TBool k) t v h = bool_right t v h
  apart_right TLong t v h = tt
  apart_right TString t v h = tt
  apart_right (TSet s) (TSet t) v h =
      set_under (lub Strict s t) (HasType t) (λ x g. from_apart_right Strict s t x g (apart_right s t x g)) v h
  apart_right (TSet s) TAnySet v h = h
  apart_right (TSet s) t v h = tt
  apart_right TAnySet t v h = any_set_right t v h
  apart_right (TRecord xs o) (TRecord ys p) (VRecord es) h =
      let P : Bool → Type 0 = λ q. IsClosedBy q (attr_names ys) es in
      closed_under o p (both_attrs Strict xs ys) (attr_names ys) es (both_right xs ys es h.0)
      (both_names Strict xs ys).1 (λ e f. subst P f h.1)
  apart_right (TRecord xs o) (TRecord ys p) v h = absurd h
  apart_right (TRecord xs o) t v h = tt
  apart_right (TEntity ps) t v h = entity_right ps t v h
  apart_right TAnyEntity t v h = any_entity_right t v h
  apart_right (TExtension n) t v h = tt

  both_right : (xs ys : Attrs) (es : Entries) → HasAttrs ys es → UnderAttrs (both_attrs Strict xs ys) es
  both_right no_attrs no_attrs es h = tt
  both_right no_attrs (attr l t q ys) es h = tt
  both_right (attr k s r xs) no_attrs es h = tt
  both_right (attr k s r xs) (attr l t q ys) es h =
      if_under (text_eq k l && mark_eq r q) (with_both k (lub Strict s t) r (both_attrs Strict xs ys)) es
      (λ e. both_under k r (lub Strict s t) (both_attrs Strict xs ys) es (HasType t)
      (λ v g. from_apart_right Strict s t v g (apart_right s t v g)) (moved_attr k l r q (HasType t) es e h.0)
      (both_right xs ys es h.1))

strict_is : (m : ValidationMode) → is_strict m ≡ true → m ≡ Strict
strict_is Strict e = refl
strict_is m e = cc

pub lub_right_strict : (m : ValidationMode) (s t u : Ty) → is_strict m ≡ true → lub m s t ≡ Some u → (v : Value) → HasType t v → HasType u v
lub_right_strict m s t u w e v h =
    let f : lub Strict s t ≡ Some u = sym (ap (λ n. lub n s t) (strict_is m w)) ∙ e in
    subst (λ o. Under o v) f (from_apart_right Strict s t v h (apart_right s t v h))
