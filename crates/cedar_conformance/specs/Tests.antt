-- Type tests: whether a value has a type.
use Rattle.std.specs.Prelude.{Bool, true, false, not, ◌&&◌, List, Option, Some, None}
use Rattle.std.specs.List.{list_any}
use Rattle.std.specs.Option.{is_some}
use Rattle.cedar_types.specs.Names.{Text, Path, Uid, text_eq, path_eq}
use Rattle.cedar_types.specs.Types.{Ty, TNever, TBool, TLong, TString, TSet, TAnySet, TRecord, TEntity, TAnyEntity, TExtension, Attrs}
use Rattle.cedar_types.specs.Types.{no_attrs, attr, attr_names}
use Rattle.cedar_types.specs.Schemas.{is_among}
use Rattle.cedar_types.specs.Values.{Value, VBool, VLong, VString, VEntity, VSet, VRecord, VExtension, Values, no_values, more_values}
use Rattle.cedar_types.specs.Values.{Entries, no_entries, more_entries, entry_at}
use Rattle.cedar_types.specs.declared.base.types.BoolType.{BoolType}
use Rattle.cedar_types.specs.declared.base.types.BoolType.TheVariants.{AnyBool, True, False}

-- ---- by kinds: the content of a value, if it is of the kind

abbrev pub bool_in : Value → Option Bool
bool_in (VBool b) = Some b
bool_in v = None

abbrev pub is_long : Value → Bool
is_long (VLong n) = true
is_long v = false

abbrev pub is_string : Value → Bool
is_string (VString t) = true
is_string v = false

abbrev pub entity_in : Value → Option Uid
entity_in (VEntity u) = Some u
entity_in v = None

abbrev pub set_in : Value → Option Values
set_in (VSet vs) = Some vs
set_in v = None

abbrev pub record_in : Value → Option Entries
record_in (VRecord es) = Some es
record_in v = None

abbrev pub extension_in : Value → Option Path
extension_in (VExtension n t) = Some n
extension_in v = None

-- there is a value, and it passes
abbrev pub passes : {A : Type 0} → (A → Bool) → Option A → Bool
passes p None = false
passes p (Some x) = p x

-- each member passes
abbrev pub all_values : (Value → Bool) → Values → Bool
all_values p no_values = true
all_values p (more_values v vs) = p v && all_values p vs

-- the value of each entry passes
abbrev pub all_entries : (Value → Bool) → Entries → Bool
all_entries p no_entries = true
all_entries p (more_entries k v es) = p v && all_entries p es

-- ---- the tests

abbrev pub has_kind : BoolType → Bool → Bool
has_kind AnyBool b = true
has_kind True b = b
has_kind False b = not b

-- an attribute that is present passes, and a required one is present
abbrev pub has_attr : Bool → (Value → Bool) → Option Value → Bool
has_attr required p None = not required
has_attr required p (Some v) = p v

-- each key is one of the names
abbrev pub keys_among : List Text → Entries → Bool
keys_among ks no_entries = true
keys_among ks (more_entries k v es) = list_any (text_eq k) ks && keys_among ks es

-- a closed record has no key beyond these names
abbrev pub is_closed_by : Bool → List Text → Entries → Bool
is_closed_by true ks es = true
is_closed_by false ks es = keys_among ks es

abbrev mutual
  -- the value has the type
  pub has_type : Ty → Value → Bool
  has_type TNever = λ v. false
  has_type (TBool k) = λ v. passes (has_kind k) (bool_in v)
  has_type TLong = is_long
  has_type TString = is_string
  has_type (TSet t) = λ v. passes (all_values (has_type t)) (set_in v)
  has_type TAnySet = λ v. is_some (set_in v)
  has_type (TRecord xs o) = λ v.
      passes (λ es. have_attrs xs es && is_closed_by o (attr_names xs) es) (record_in v)
  has_type (TEntity ps) = λ v. passes (λ u. is_among ps u.entity_type) (entity_in v)
  has_type TAnyEntity = λ v. is_some (entity_in v)
  has_type (TExtension n) = λ v. passes (λ m. path_eq m n) (extension_in v)

  pub have_attrs : Attrs → Entries → Bool
  have_attrs no_attrs es = true
  have_attrs (attr k t r xs) es = has_attr r (has_type t) (entry_at k es) && have_attrs xs es
