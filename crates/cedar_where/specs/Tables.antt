-- Columns of the table of an entity type.
use Rattle.std.specs.Prelude.{◌≡◌, Bool, true, ◌&&◌, List, [], ◌∷◌, ◌++◌, Option, Some, None, map}
use Rattle.cedar_types.specs.Names.{Text, text_of}
use Rattle.cedar_types.specs.Types.{Ty, TNever, TBool, TLong, TString, TSet, TAnySet, TRecord, TEntity, TAnyEntity, TExtension, Attrs, no_attrs, attr}
use Rattle.cedar_where.specs.declared.tables.Column.{Column}
use Rattle.cedar_where.specs.declared.tables.Columns.{Columns}
use Rattle.std.specs.declared.rc.RcStr.{RcStr}
use Rattle.std.specs.declared.alloc.Global.{Global}
use Rattle.std.specs.declared.vec.Vec.{Vec}
use Rattle.cedar_where.specs.declared.tables.ColumnType.{ColumnType}
use Rattle.cedar_where.specs.Compiled.{Kind, KBool, KLong, KText, KEntity, column_kind}

-- a column: the path of its attribute from the entity, its type, and whether it is NOT NULL
pub record Holder : Type 0 where
  pub path : List Text
  pub column_type : ColumnType
  pub is_required : Bool

-- the type of the column that holds the values of a kind
abbrev pub column_type : Kind → ColumnType
column_type KBool = ColumnType.Bool
column_type KLong = ColumnType.Long
column_type KText = ColumnType.Text
column_type (KEntity p) = ColumnType.Entity

abbrev pub holder : List Text → Bool → Kind → Holder
holder xs q k = record { path = xs; column_type = column_type k; is_required = q }

-- a value has a column if a column can hold its kind
abbrev pub column_if : List Text → Bool → Option Kind → List Holder
column_if xs q None = []
column_if xs q (Some k) = holder xs q k ∷ []

-- an attribute has a column, and a record has those of its attributes: NOT NULL if the attribute is required, and each record
-- before it
abbrev mutual
  -- the columns of some attributes, in their order, behind a path
  pub columns : Attrs → List Text → Bool → List Holder
  columns no_attrs before q = []
  columns (attr x t r xs) before q = columns_at t (before ++ x ∷ []) (q && r) ++ columns xs before q

  -- the columns for the value at a path
  pub columns_at : Ty → List Text → Bool → List Holder
  columns_at TNever xs q = column_if xs q (column_kind TNever)
  columns_at (TBool k) xs q = column_if xs q (column_kind (TBool k))
  columns_at TLong xs q = column_if xs q (column_kind TLong)
  columns_at TString xs q = column_if xs q (column_kind TString)
  columns_at (TSet t) xs q = column_if xs q (column_kind (TSet t))
  columns_at TAnySet xs q = column_if xs q (column_kind TAnySet)
  columns_at (TRecord ys o) xs q = columns ys xs q
  columns_at (TEntity ps) xs q = column_if xs q (column_kind (TEntity ps))
  columns_at TAnyEntity xs q = column_if xs q (column_kind TAnyEntity)
  columns_at (TExtension n) xs q = column_if xs q (column_kind (TExtension n))

abbrev pub left_out_if : List Text → Option Kind → List (List Text)
left_out_if xs None = xs ∷ []
left_out_if xs (Some k) = []

abbrev mutual
  -- the paths of the attributes that have no column, in their order
  pub left_out : Attrs → List Text → List (List Text)
  left_out no_attrs before = []
  left_out (attr x t r xs) before = left_out_at t (before ++ x ∷ []) ++ left_out xs before

  pub left_out_at : Ty → List Text → List (List Text)
  left_out_at TNever xs = left_out_if xs (column_kind TNever)
  left_out_at (TBool k) xs = left_out_if xs (column_kind (TBool k))
  left_out_at TLong xs = left_out_if xs (column_kind TLong)
  left_out_at TString xs = left_out_if xs (column_kind TString)
  left_out_at (TSet t) xs = left_out_if xs (column_kind (TSet t))
  left_out_at TAnySet xs = left_out_if xs (column_kind TAnySet)
  left_out_at (TRecord ys o) xs = left_out ys xs
  left_out_at (TEntity ps) xs = left_out_if xs (column_kind (TEntity ps))
  left_out_at TAnyEntity xs = left_out_if xs (column_kind TAnyEntity)
  left_out_at (TExtension n) xs = left_out_if xs (column_kind (TExtension n))

-- ---- columns of the program

abbrev pub holder_of : Column → Holder
holder_of c = record { path = map text_of c.path.items; column_type = c.column_type; is_required = c.is_required }

-- the texts of a path
abbrev pub texts_of : Vec (RcStr Global) Global → List Text
texts_of p = map text_of p.items

-- columns and left-out paths that are added behind those before
abbrev pub Adds : Columns → Columns → List Holder → List (List Text) → Type 0
Adds old new cs ls =
    (map holder_of new.columns.items ≡ map holder_of old.columns.items ++ cs)
    × (map texts_of new.left_out.items ≡ map texts_of old.left_out.items ++ ls)
