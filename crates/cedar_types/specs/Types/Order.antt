-- The order of types.
use Rattle.std.specs.Prelude.{ℕ, Bool, true, false, List, [], ◌∷◌}
use Rattle.std.specs.Ordering.{nat_cmp, ordering_then, match_ordering}
use Rattle.std.specs.Cmp.Lexicographic.{slice_cmp}
use Rattle.std.specs.declared.cmp.Ordering.{Ordering}
use Rattle.std.specs.declared.cmp.Ordering.TheVariants.{Less, Equal, Greater}
use Rattle.cedar_types.specs.declared.base.types.BoolType.{BoolType}
use Rattle.cedar_types.specs.declared.base.types.BoolType.TheVariants.{AnyBool, True, False}
use Rattle.cedar_types.specs.Names.{text_cmp, path_cmp}
use Rattle.cedar_types.specs.Types.{Ty, TNever, TBool, TLong, TString, TSet, TAnySet, TRecord, TEntity, TAnyEntity, TExtension, Attrs}
use Rattle.cedar_types.specs.Types.{no_attrs, attr}

-- the rank of a type's kind in the order
abbrev pub kind_rank : Ty → ℕ
kind_rank TNever = 0
kind_rank (TBool k) = 1
kind_rank TLong = 2
kind_rank TString = 3
kind_rank (TSet t) = 4
kind_rank TAnySet = 5
kind_rank (TRecord xs o) = 6
kind_rank (TEntity ps) = 7
kind_rank TAnyEntity = 8
kind_rank (TExtension n) = 9

-- the rank of a kind of Boolean in the order
abbrev pub bool_rank : BoolType → ℕ
bool_rank AnyBool = 0
bool_rank True = 1
bool_rank False = 2

-- the rank of open before that of closed
abbrev pub open_rank : Bool → ℕ
open_rank true = 0
open_rank false = 1

-- the rank of optional before that of required
abbrev pub required_rank : Bool → ℕ
required_rank false = 0
required_rank true = 1

abbrev mutual
  -- the order of types: of one kind by their parts, in the order named, and of others by their
  -- kinds
  pub ty_cmp : Ty → Ty → Ordering
  ty_cmp (TBool j) (TBool k) = nat_cmp (bool_rank j) (bool_rank k)
  ty_cmp (TSet s) (TSet t) = ty_cmp s t
  ty_cmp (TRecord xs o) (TRecord ys p) =
      ordering_then (attrs_cmp xs ys) (nat_cmp (open_rank o) (open_rank p))
  ty_cmp (TEntity ps) (TEntity qs) = slice_cmp path_cmp ps qs
  ty_cmp (TExtension n) (TExtension m) = path_cmp n m
  ty_cmp s t = nat_cmp (kind_rank s) (kind_rank t)

  -- the order of attributes as lists: by name, then by type, then by mark
  pub attrs_cmp : Attrs → Attrs → Ordering
  attrs_cmp no_attrs no_attrs = Equal
  attrs_cmp no_attrs (attr l t q ys) = Less
  attrs_cmp (attr k s r xs) no_attrs = Greater
  attrs_cmp (attr k s r xs) (attr l t q ys) =
      ordering_then
      (ordering_then (text_cmp k l)
      (ordering_then (ty_cmp s t) (nat_cmp (required_rank r) (required_rank q))))
      (attrs_cmp xs ys)

-- ascending types, with t at its place if it is not yet there
abbrev pub insert_ty : List Ty → Ty → List Ty
insert_ty [] t = t ∷ []
insert_ty (u ∷ us) t = match_ordering (ty_cmp t u) (t ∷ u ∷ us) (u ∷ us) (u ∷ insert_ty us t)

-- ascending types, with each of ts at its place
abbrev pub insert_tys : List Ty → List Ty → List Ty
insert_tys us [] = us
insert_tys us (t ∷ ts) = insert_tys (insert_ty us t) ts

-- the types of a list in ascending order, each once
abbrev pub in_order : List Ty → List Ty
in_order ts = insert_tys [] ts
