-- A value of one of two types has their bound.
use Rattle.std.proofs.Common.{◌≡◌, ◌≤◌, suc, Bool, true, false, ◌&&◌, ◌||◌, not, nat_eq, List, ◌∷◌, Option, Some, None, option_map}
use Rattle.std.proofs.Common.{if◌then◌else◌, refl, sym, ap, subst, ◌∙◌, arith}
use Rattle.std.specs.Prelude.{IsTrue}
use borrow.Author.Tests.{eqb-true}
use Rattle.cedar_types.specs.declared.base.types.ValidationMode.{ValidationMode}
use Rattle.cedar_types.specs.declared.base.types.BoolType.{BoolType}
use Rattle.cedar_types.specs.declared.base.types.BoolType.TheVariants.{AnyBool}
use Rattle.cedar_types.specs.Names.{Text, Path, Uid, text_eq}
use Rattle.cedar_types.specs.Types.{Ty, TNever, TBool, TLong, TString, TSet, TAnySet, TRecord, TEntity, TAnyEntity, TExtension, Attrs}
use Rattle.cedar_types.specs.Types.{no_attrs, attr, attr_names, is_well_formed}
use Rattle.cedar_types.specs.Schemas.{is_among}
use Rattle.cedar_types.specs.Types.Bounds.{mark_eq, ty_eq, union, find_attr, attr_count, is_strict, is_never, bool_lub, any_set_lub}
use Rattle.cedar_types.specs.Types.Bounds.{entity_lub, any_entity_lub, closed_lub, wide_lub, record_lub, with_both, with_bound, with_common}
use Rattle.cedar_types.specs.Types.Bounds.{apart_lub, both_attrs, common_attrs, lub}
use Rattle.cedar_types.specs.Values.{Value, Values, no_values, more_values, Entries, entry_at, VBool, VEntity, VSet, VRecord}
use Rattle.cedar_types.specs.Values.{OnEntity, OnSet, AllValues, HasAttr, IsClosedBy, HasType, HasAttrs}
use Rattle.cedar_types.proofs.Comparisons.SameTypes.{and_left, text_decides}
use Rattle.cedar_types.proofs.Names.Unions.{has_union}
use Rattle.cedar_types.proofs.Bounds.Symmetric.{symmetric}
use Rattle.cedar_typing.proofs.Basics.{or_left}

-- the value has the type, if there is one
abbrev pub Under : Option Ty → Value → Type 0
Under None v = Unit {0}
Under (Some t) v = HasType t v

-- ---- by kinds

on_entity : (P Q : Uid → Type 0) → ((u : Uid) → P u → Q u) → (v : Value) → OnEntity P v → OnEntity Q v
on_entity P Q f (VEntity u) h = f u h
on_entity P Q f v h = absurd h

on_set : (P Q : Values → Type 0) → ((vs : Values) → P vs → Q vs) → (v : Value) → OnSet P v → OnSet Q v
on_set P Q f (VSet vs) h = f vs h
on_set P Q f v h = absurd h

all_values : (P Q : Value → Type 0) → ((v : Value) → P v → Q v) → (vs : Values) → AllValues P vs → AllValues Q vs
all_values P Q f no_values h = tt
all_values P Q f (more_values v vs) h = (f v h.0, all_values P Q f vs h.1)

pub set_under : (o : Option Ty) (P : Value → Type 0) → ((v : Value) → P v → Under o v) → (v : Value)
    → OnSet (AllValues P) v → Under (option_map TSet o) v
set_under None P f v h = tt
set_under (Some t) P f v h = on_set (AllValues P) (AllValues (HasType t)) (all_values P (HasType t) f) v h

pub any_set : (t : Ty) (v : Value) → HasType (TSet t) v → HasType TAnySet v
any_set t v h = on_set (AllValues (HasType t)) (λ vs. Unit {0}) (λ vs g. tt) v h

pub any_bool : (k : BoolType) (v : Value) → HasType (TBool k) v → HasType (TBool AnyBool) v
any_bool k (VBool b) h = tt
any_bool k v h = absurd h

pub any_entity : (ps : List Path) (v : Value) → HasType (TEntity ps) v → HasType TAnyEntity v
any_entity ps v h = on_entity (λ u. IsTrue (is_among ps u.entity_type)) (λ u. Unit {0}) (λ u g. tt) v h

in_union_left : (ps qs : List Path) (v : Value) → HasType (TEntity ps) v → HasType (TEntity (union ps qs)) v
in_union_left ps qs v h =
    on_entity (λ u. IsTrue (is_among ps u.entity_type)) (λ u. IsTrue (is_among (union ps qs) u.entity_type))
    (λ u g. has_union u.entity_type ps qs ∙ or_left (is_among ps u.entity_type) (is_among qs u.entity_type) g) v h

-- ---- records

-- the entries have the attributes, if there are any
abbrev pub UnderAttrs : Option Attrs → Entries → Type 0
UnderAttrs None es = Unit {0}
UnderAttrs (Some xs) es = HasAttrs xs es

-- the names are those of the attributes, if there are any
abbrev pub NamesAre : Option Attrs → List Text → Type 0
NamesAre None ks = Unit {0}
NamesAre (Some xs) ks = attr_names xs ≡ ks

pub attr_under : (r q : Bool) (P Q : Value → Type 0) → ((v : Value) → P v → Q v) → (q ≡ true → r ≡ true)
    → (o : Option Value) → HasAttr r P o → HasAttr q Q o
attr_under r q P Q f g (Some v) h = f v h
attr_under r true P Q f g None h = subst (λ b. IsTrue (not b)) (g refl) h
attr_under r false P Q f g None h = refl

pub both_under : (k : Text) (r : Bool) (o : Option Ty) (zs : Option Attrs) (es : Entries) (P : Value → Type 0)
    → ((v : Value) → P v → Under o v) → HasAttr r P (entry_at k es) → UnderAttrs zs es
    → UnderAttrs (with_both k o r zs) es
both_under k r None zs es P f h g = tt
both_under k r (Some u) None es P f h g = tt
both_under k r (Some u) (Some zs) es P f h g = (attr_under r r P (HasType u) f (λ e. e) (entry_at k es) h, g)

both_named : (k : Text) (r : Bool) (o : Option Ty) (zs : Option Attrs) (ks : List Text) → NamesAre zs ks
    → NamesAre (with_both k o r zs) (k ∷ ks)
both_named k r None zs ks h = tt
both_named k r (Some u) None ks h = tt
both_named k r (Some u) (Some zs) ks h = ap (λ ls. k ∷ ls) h

pub if_under : (b : Bool) (zs : Option Attrs) (es : Entries) → (b ≡ true → UnderAttrs zs es) → UnderAttrs (if b then zs else None) es
if_under true zs es h = h refl
if_under false zs es h = tt

if_named : (b : Bool) (zs : Option Attrs) (ks : List Text) → (b ≡ true → NamesAre zs ks) → NamesAre (if b then zs else None) ks
if_named true zs ks h = h refl
if_named false zs ks h = tt

-- a closed record, by the attributes of a bound in Strict
pub closed_under : (o p : Bool) (zs : Option Attrs) (ks : List Text) (es : Entries) → UnderAttrs zs es
    → NamesAre zs ks → (o ≡ false → p ≡ false → IsClosedBy false ks es) → Under (closed_lub o p zs) (VRecord es)
closed_under true p zs ks es h n c = tt
closed_under false true zs ks es h n c = tt
closed_under false false None ks es h n c = tt
closed_under false false (Some zs) ks es h n c = (h, subst (λ ls. IsClosedBy false ls es) (sym n) (c refl refl))

-- a record in the other modes has no other keys, if no attribute was dropped
wide_closed : (o p b c : Bool) (ks ls : List Text) (es : Entries) → (b ≡ true → ls ≡ ks) → IsClosedBy o ks es
    → IsClosedBy (o || p || not (b && c)) ls es
wide_closed true p b c ks ls es h g = tt
wide_closed false true b c ks ls es h g = tt
wide_closed false false true true ks ls es h g = subst (λ ns. IsClosedBy false ns es) (sym (h refl)) g
wide_closed false false true false ks ls es h g = tt
wide_closed false false false c ks ls es h g = tt

-- the bound in a mode has all of the left side's attributes, or fewer
fewer_here : (k : Text) (o : Option Ty) (r : Bool) (zs xs : Attrs) → attr_count zs ≤ attr_count xs
    → attr_count (with_bound k o r zs) ≤ suc (attr_count xs)
fewer_here k None r zs xs h = omega arith
fewer_here k (Some u) r zs xs h = omega arith

fewer_at : (k : Text) (a : Option (Ty × Bool)) (bound : Ty → Option Ty) (r : Bool) (zs xs : Attrs)
    → attr_count zs ≤ attr_count xs → attr_count (with_common k a bound r zs) ≤ suc (attr_count xs)
fewer_at k None bound r zs xs h = omega arith
fewer_at k (Some a) bound r zs xs h = fewer_here k (bound a.0) (r && a.1) zs xs h

fewer : (m : ValidationMode) (xs ys : Attrs) → attr_count (common_attrs m xs ys) ≤ attr_count xs
fewer m no_attrs ys = omega arith
fewer m (attr k s r xs) ys = fewer_at k (find_attr k ys) (lub m s) r (common_attrs m xs ys) xs (fewer m xs ys)

kept_here : (k : Text) (o : Option Ty) (r : Bool) (zs xs : Attrs) → attr_count zs ≤ attr_count xs
    → (attr_count zs ≡ attr_count xs → attr_names zs ≡ attr_names xs)
    → attr_count (with_bound k o r zs) ≡ suc (attr_count xs) → attr_names (with_bound k o r zs) ≡ k ∷ attr_names xs
kept_here k None r zs xs l h e = absurd (omega arith)
kept_here k (Some u) r zs xs l h e = ap (λ ks. k ∷ ks) (h (omega arith))

kept_at : (k : Text) (a : Option (Ty × Bool)) (bound : Ty → Option Ty) (r : Bool) (zs xs : Attrs)
    → attr_count zs ≤ attr_count xs → (attr_count zs ≡ attr_count xs → attr_names zs ≡ attr_names xs)
    → attr_count (with_common k a bound r zs) ≡ suc (attr_count xs)
    → attr_names (with_common k a bound r zs) ≡ k ∷ attr_names xs
kept_at k None bound r zs xs l h e = absurd (omega arith)
kept_at k (Some a) bound r zs xs l h e = kept_here k (bound a.0) (r && a.1) zs xs l h e

as_failed : (m : ValidationMode) (xs ys : Attrs) → attr_count (common_attrs m xs ys) ≡ attr_count xs
    → attr_names (common_attrs m xs ys) ≡ attr_names xs
as_failed m no_attrs ys e = refl
as_failed m (attr k s r xs) ys e = kept_at k (find_attr k ys) (lub m s) r (common_attrs m xs ys) xs (fewer m xs ys) (as_failed m xs ys) e

common_here : (k : Text) (o : Option Ty) (r q : Bool) (zs : Attrs) (es : Entries) (P : Value → Type 0)
    → ((v : Value) → P v → Under o v) → HasAttr r P (entry_at k es) → (q ≡ true → r ≡ true) → HasAttrs zs es
    → HasAttrs (with_bound k o q zs) es
common_here k None r q zs es P f h e g = g
common_here k (Some u) r q zs es P f h e g = (attr_under r q P (HasType u) f e (entry_at k es) h, g)

common_under : (k : Text) (a : Option (Ty × Bool)) (bound : Ty → Option Ty) (r : Bool) (zs : Attrs) (es : Entries)
    (P : Value → Type 0) → ((t : Ty) (v : Value) → P v → Under (bound t) v) → HasAttr r P (entry_at k es)
    → HasAttrs zs es → HasAttrs (with_common k a bound r zs) es
common_under k None bound r zs es P f h g = g
common_under k (Some a) bound r zs es P f h g = common_here k (bound a.0) r (r && a.1) zs es P (f a.0) h (and_left r a.1) g

either_under : (b : Bool) (o p : Option Ty) (v : Value) → Under o v → Under p v → Under (if b then o else p) v
either_under true o p v h g = h
either_under false o p v h g = g

record_left : (m : ValidationMode) (xs ys : Attrs) (o p : Bool) → NamesAre (both_attrs m xs ys) (attr_names xs)
    → (es : Entries) → UnderAttrs (both_attrs m xs ys) es → HasAttrs (common_attrs m xs ys) es
    → IsClosedBy o (attr_names xs) es
    → Under (record_lub m xs o (both_attrs m xs) (common_attrs m xs) (TRecord ys p)) (VRecord es)
record_left m xs ys o p n es h g c =
    let P : Bool → Type 0 = λ q. IsClosedBy q (attr_names xs) es in
    either_under (is_strict m) (closed_lub o p (both_attrs m xs ys)) (Some (wide_lub xs o ys p (common_attrs m xs ys))) (VRecord es)
    (closed_under o p (both_attrs m xs ys) (attr_names xs) es h n (λ e f. subst P e c)) (
      g,
      wide_closed o p (nat_eq (attr_count (common_attrs m xs ys)) (attr_count xs))
          (nat_eq (attr_count (common_attrs m xs ys)) (attr_count ys)) (attr_names xs)
          (attr_names (common_attrs m xs ys)) es (λ e. as_failed m xs ys (eqb-true _ _ e)) c,
    )

-- the joined attributes have the names of each of the two sides
pub both_names : (m : ValidationMode) (xs ys : Attrs)
    → NamesAre (both_attrs m xs ys) (attr_names xs) × NamesAre (both_attrs m xs ys) (attr_names ys)
both_names m no_attrs no_attrs = (refl, refl)
both_names m no_attrs (attr l t q ys) = (tt, tt)
both_names m (attr k s r xs) no_attrs = (tt, tt)
both_names m (attr k s r xs) (attr l t q ys) =
    let later = both_names m xs ys in
    let whole = with_both k (lub m s t) r (both_attrs m xs ys) in (
      if_named (text_eq k l && mark_eq r q) whole (k ∷ attr_names xs)
          (λ e. both_named k r (lub m s t) (both_attrs m xs ys) (attr_names xs) later.0),
      if_named (text_eq k l && mark_eq r q) whole (l ∷ attr_names ys)
          (λ e. subst (λ j. NamesAre whole (j ∷ attr_names ys)) ((text_decides k l).0 (and_left (text_eq k l) (mark_eq r q) e))
          (both_named k r (lub m s t) (both_attrs m xs ys) (attr_names ys) later.1)),
    )

-- ---- the left side

pub from_apart : (m : ValidationMode) (s t : Ty) (v : Value) → HasType s v → Under (apart_lub m s t) v → Under (lub m s t) v
from_apart m s t v h g =
    either_under (ty_eq s t) (Some s) (if is_never t then Some s else apart_lub m s t) v h
    (either_under (is_never t) (Some s) (apart_lub m s t) v h g)

bool_left : (k : BoolType) (t : Ty) (v : Value) → HasType (TBool k) v → Under (bool_lub t) v
bool_left k (TBool j) v h = any_bool k v h
bool_left k t v h = tt

any_set_left : (t : Ty) (v : Value) → HasType TAnySet v → Under (any_set_lub t) v
any_set_left (TSet t) v h = h
any_set_left t v h = tt

entity_left : (m : ValidationMode) (ps : List Path) (t : Ty) (v : Value) → HasType (TEntity ps) v → Under (entity_lub m ps t) v
entity_left m ps (TEntity qs) v h = either_under (is_strict m) None (Some (TEntity (union ps qs))) v tt (in_union_left ps qs v h)
entity_left m ps TAnyEntity v h = any_entity ps v h
entity_left m ps t v h = tt

any_entity_left : (t : Ty) (v : Value) → HasType TAnyEntity v → Under (any_entity_lub t) v
any_entity_left (TEntity qs) v h = h
any_entity_left t v h = tt

mutual
  pub apart_left : (m : ValidationMode) (s t : Ty) (v : Value) → HasType s v → Under (apart_lub m s t) v
  apart_left m TNever t v h = absurd h
  apart_left m (TBool k) t v h = bool_left k t v h
  apart_left m TLong t v h = tt
  apart_left m TString t v h = tt
  apart_left m (TSet s) (TSet t) v h = set_under (lub m s t) (HasType s) (λ x g. from_apart m s t x g (apart_left m s t x g)) v h
  apart_left m (TSet s) TAnySet v h = any_set s v h
  apart_left m (TSet s) t v h = tt
  apart_left m TAnySet t v h = any_set_left t v h
  apart_left m (TRecord xs o) (TRecord ys p) (VRecord es) h =
      record_left m xs ys o p (both_names m xs ys).0 es (both_left m xs ys es h.0)
      (common_left m xs ys es h.0) h.1
  apart_left m (TRecord xs o) (TRecord ys p) v h = absurd h
  apart_left m (TRecord xs o) t v h = tt
  apart_left m (TEntity ps) t v h = entity_left m ps t v h
  apart_left m TAnyEntity t v h = any_entity_left t v h
  apart_left m (TExtension n) t v h = tt

  both_left : (m : ValidationMode) (xs ys : Attrs) (es : Entries) → HasAttrs xs es → UnderAttrs (both_attrs m xs ys) es
  both_left m no_attrs no_attrs es h = tt
  both_left m no_attrs (attr l t q ys) es h = tt
  both_left m (attr k s r xs) no_attrs es h = tt
  both_left m (attr k s r xs) (attr l t q ys) es h =
      if_under (text_eq k l && mark_eq r q) (with_both k (lub m s t) r (both_attrs m xs ys)) es
      (λ e. both_under k r (lub m s t) (both_attrs m xs ys) es (HasType s)
      (λ v g. from_apart m s t v g (apart_left m s t v g)) h.0 (both_left m xs ys es h.1))

  common_left : (m : ValidationMode) (xs ys : Attrs) (es : Entries) → HasAttrs xs es → HasAttrs (common_attrs m xs ys) es
  common_left m no_attrs ys es h = tt
  common_left m (attr k s r xs) ys es h =
      common_under k (find_attr k ys) (lub m s) r (common_attrs m xs ys) es (HasType s)
      (λ t v g. from_apart m s t v g (apart_left m s t v g)) h.0 (common_left m xs ys es h.1)

pub lub_left : (m : ValidationMode) (s t u : Ty) → lub m s t ≡ Some u → (v : Value) → HasType s v → HasType u v
lub_left m s t u e v h = subst (λ o. Under o v) e (from_apart m s t v h (apart_left m s t v h))

-- ---- the right side

-- a value of the right side has the bound of well-formed types: without repeated names the order of
-- the sides does not count
pub lub_right : (m : ValidationMode) (s t u : Ty) → is_well_formed s ≡ true → is_well_formed t ≡ true
    → lub m s t ≡ Some u → (v : Value) → HasType t v → HasType u v
lub_right m s t u w x e v h = lub_left m t s u (sym (symmetric m s w t x) ∙ e) v h
