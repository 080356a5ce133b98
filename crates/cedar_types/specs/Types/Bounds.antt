-- Least upper bound, subtype and disjointness of types.
use Rattle.std.specs.Prelude.{ℕ, suc, Bool, true, false, ◌&&◌, ◌||◌, not, List, [], ◌∷◌, Option, Some, None, option_map, nat_eq}
use Rattle.std.specs.Prelude.{if◌then◌else◌}
use Rattle.std.specs.List.{list_any}
use Rattle.std.specs.Ordering.{match_ordering}
use Rattle.std.specs.Cmp.Lexicographic.{pointwise}
use Rattle.cedar_types.specs.Names.{Text, Path, path_cmp, text_eq, path_eq}
use Rattle.cedar_types.specs.Types.{Ty, TNever, TBool, TLong, TString, TSet, TAnySet, TRecord, TEntity, TAnyEntity, TExtension, Attrs}
use Rattle.cedar_types.specs.Types.{no_attrs, attr}
use Rattle.cedar_types.specs.declared.base.types.BoolType.{BoolType}
use Rattle.cedar_types.specs.declared.base.types.BoolType.TheVariants.{AnyBool, True, False}
use Rattle.cedar_types.specs.declared.base.types.ValidationMode.{ValidationMode}
use Rattle.cedar_types.specs.declared.base.types.ValidationMode.TheVariants.{Strict, Permissive, Partial}

-- ---- equality, as a test

abbrev pub kind_eq : BoolType → BoolType → Bool
kind_eq AnyBool AnyBool = true
kind_eq True True = true
kind_eq False False = true
kind_eq j k = false

abbrev pub mark_eq : Bool → Bool → Bool
mark_eq true b = b
mark_eq false b = not b

abbrev mutual
  pub ty_eq : Ty → Ty → Bool
  ty_eq TNever TNever = true
  ty_eq (TBool j) (TBool k) = kind_eq j k
  ty_eq TLong TLong = true
  ty_eq TString TString = true
  ty_eq (TSet s) (TSet t) = ty_eq s t
  ty_eq TAnySet TAnySet = true
  ty_eq (TRecord xs o) (TRecord ys p) = attrs_eq xs ys && mark_eq o p
  ty_eq (TEntity ps) (TEntity qs) = pointwise path_eq ps qs
  ty_eq TAnyEntity TAnyEntity = true
  ty_eq (TExtension n) (TExtension m) = path_eq n m
  ty_eq s t = false

  pub attrs_eq : Attrs → Attrs → Bool
  attrs_eq no_attrs no_attrs = true
  attrs_eq (attr k s r xs) (attr l t q ys) =
      (text_eq k l && (ty_eq s t && mark_eq r q)) && attrs_eq xs ys
  attrs_eq xs ys = false

-- ---- entity sets and attributes

-- the list with a name at its place among ascending names, if it is not yet there
abbrev pub insert_path : Path → List Path → List Path
insert_path p [] = p ∷ []
insert_path p (q ∷ qs) = match_ordering (path_cmp p q) (p ∷ q ∷ qs) (q ∷ qs) (q ∷ insert_path p qs)

-- the names of both lists
abbrev pub union : List Path → List Path → List Path
union ps [] = ps
union ps (q ∷ qs) = union (insert_path q ps) qs

-- the attribute of this name: its type, and whether it is required
abbrev pub find_attr : Text → Attrs → Option (Ty × Bool)
find_attr k no_attrs = None
find_attr k (attr l t r xs) = if text_eq k l then Some (t, r) else find_attr k xs

-- the number of attributes
abbrev pub attr_count : Attrs → ℕ
attr_count no_attrs = 0
attr_count (attr k t r xs) = suc (attr_count xs)

-- ---- the bound

abbrev pub is_strict : ValidationMode → Bool
is_strict Strict = true
is_strict Permissive = false
is_strict Partial = false

abbrev pub is_never : Ty → Bool
is_never TNever = true
is_never t = false

-- the bound of two different kinds of Bool: Bool
abbrev pub bool_lub : Ty → Option Ty
bool_lub (TBool k) = Some (TBool AnyBool)
bool_lub t = None

-- the bound of two sets: by element, none if the elements have none; with a set of anything: the
-- set of anything
abbrev pub set_lub : (Ty → Option Ty) → Ty → Option Ty
set_lub bound (TSet t) = option_map TSet (bound t)
set_lub bound TAnySet = Some TAnySet
set_lub bound t = None

abbrev pub any_set_lub : Ty → Option Ty
any_set_lub (TSet t) = Some TAnySet
any_set_lub t = None

-- the bound of two different sets of entity types: none in Strict, else their union; with any
-- entity: any entity
abbrev pub entity_lub : ValidationMode → List Path → Ty → Option Ty
entity_lub m ps (TEntity qs) = if is_strict m then None else Some (TEntity (union ps qs))
entity_lub m ps TAnyEntity = Some TAnyEntity
entity_lub m ps t = None

abbrev pub any_entity_lub : Ty → Option Ty
any_entity_lub (TEntity qs) = Some TAnyEntity
any_entity_lub t = None

-- the bound of two different records in Strict: both are closed, and all attributes have a bound
abbrev pub closed_lub : Bool → Bool → Option Attrs → Option Ty
closed_lub o p zs = if o || p then None else option_map (λ zs. TRecord zs false) zs

-- the bound in the other modes: open if a side is open, or has an attribute that was dropped
abbrev pub wide_lub : Attrs → Bool → Attrs → Bool → Attrs → Ty
wide_lub xs o ys p zs =
    TRecord zs
    (o || p
    || not (nat_eq (attr_count zs) (attr_count xs) && nat_eq (attr_count zs) (attr_count ys)))

-- the bound of two different records, whose bound has these attributes: in Strict, and in the other
-- modes
abbrev pub record_lub : ValidationMode → Attrs → Bool
    → (Attrs → Option Attrs) → (Attrs → Attrs) → Ty → Option Ty
record_lub m xs o both common (TRecord ys p) =
    if is_strict m then closed_lub o p (both ys)
    else Some (wide_lub xs o ys p (common ys))
record_lub m xs o both common t = None

-- the bound of s with t, where `apart` gives that of s with a type that differs from s and is not
-- Never: equal types first; Never and a type: that type
abbrev pub lub_by : (Ty → Option Ty) → Ty → Ty → Option Ty
lub_by apart s t = if ty_eq s t then Some s else if is_never t then Some s else apart t

-- an attribute of the bound in Strict, which must have a type
abbrev pub with_both : Text → Option Ty → Bool → Option Attrs → Option Attrs
with_both k None r zs = None
with_both k (Some u) r zs = option_map (attr k u r) zs

-- an attribute of the bound in the other modes, if it has a type
abbrev pub with_bound : Text → Option Ty → Bool → Attrs → Attrs
with_bound k None r zs = zs
with_bound k (Some u) r zs = attr k u r zs

-- an attribute of the bound, if the other side has it and the types have a bound; required if both
-- are
abbrev pub with_common : Text → Option (Ty × Bool) → (Ty → Option Ty) → Bool → Attrs → Attrs
with_common k None bound r zs = zs
with_common k (Some a) bound r zs = with_bound k (bound a.0) (r && a.1) zs

abbrev mutual
  -- the bound of a type with one that differs from it and is not Never
  pub apart_lub : ValidationMode → Ty → Ty → Option Ty
  apart_lub m TNever t = Some t
  apart_lub m (TBool j) t = bool_lub t
  apart_lub m TLong t = None
  apart_lub m TString t = None
  apart_lub m (TSet s) t = set_lub (lub_by (apart_lub m s) s) t
  apart_lub m TAnySet t = any_set_lub t
  apart_lub m (TRecord xs o) t = record_lub m xs o (both_attrs m xs) (common_attrs m xs) t
  apart_lub m (TEntity ps) t = entity_lub m ps t
  apart_lub m TAnyEntity t = any_entity_lub t
  apart_lub m (TExtension n) t = None

  -- the attributes of two sides with equal names and marks, attribute by attribute, with bounds of
  -- their types
  pub both_attrs : ValidationMode → Attrs → Attrs → Option Attrs
  both_attrs m no_attrs no_attrs = Some no_attrs
  both_attrs m (attr k s r xs) (attr l t q ys) =
      if text_eq k l && mark_eq r q
      then with_both k (lub_by (apart_lub m s) s t) r (both_attrs m xs ys)
      else None
  both_attrs m xs ys = None

  -- the attributes of names on both sides whose types have a bound
  pub common_attrs : ValidationMode → Attrs → Attrs → Attrs
  common_attrs m no_attrs ys = no_attrs
  common_attrs m (attr k s r xs) ys =
      with_common k (find_attr k ys) (lub_by (apart_lub m s) s) r (common_attrs m xs ys)

-- the least upper bound in a mode, if there is one
abbrev pub lub : ValidationMode → Ty → Ty → Option Ty
lub m s t = lub_by (apart_lub m s) s t

-- ---- definitions that rest on the bound

abbrev pub go_on : Option Ty → (Ty → Option Ty) → Option Ty
go_on None next = None
go_on (Some u) next = next u

-- the bound of a type with others, one after another
abbrev pub fold_lub : ValidationMode → Ty → List Ty → Option Ty
fold_lub m u [] = Some u
fold_lub m u (t ∷ ts) = go_on (lub m u t) (λ v. fold_lub m v ts)

-- the bound of a list, folded from its first member; Never for an empty list
abbrev pub list_lub : ValidationMode → List Ty → Option Ty
list_lub m [] = Some TNever
list_lub m (t ∷ ts) = fold_lub m t ts

abbrev pub is_just : Ty → Option Ty → Bool
is_just t None = false
is_just t (Some u) = ty_eq u t

-- s is a subtype of t if their bound is t
abbrev pub is_subtype : ValidationMode → Ty → Ty → Bool
is_subtype m s t = is_just t (lub m s t)

-- whether two lists have a member in common
abbrev pub share_member : List Path → List Path → Bool
share_member ps qs = list_any (λ p. list_any (path_eq p) qs) ps

-- only two sets of entity types without a common member are disjoint
abbrev pub are_disjoint : Ty → Ty → Bool
are_disjoint (TEntity ps) (TEntity qs) = not (share_member ps qs)
are_disjoint s t = false
