-- Values, and the values of a type.
use Rattle.std.specs.Prelude.{◌≡◌, Bool, true, false, not, List, [], ◌∷◌, Option, Some, None, ℤ, if◌then◌else◌, IsTrue}
use Rattle.std.specs.List.{list_any}
use Rattle.cedar_types.specs.Names.{Text, Path, Uid, text_eq}
use Rattle.cedar_types.specs.Types.{Ty, TNever, TBool, TLong, TString, TSet, TAnySet, TRecord, TEntity, TAnyEntity, TExtension, Attrs}
use Rattle.cedar_types.specs.Types.{no_attrs, attr, attr_names}
use Rattle.cedar_types.specs.Schemas.{is_among}
use Rattle.cedar_types.specs.declared.base.types.BoolType.{BoolType}
use Rattle.cedar_types.specs.declared.base.types.BoolType.TheVariants.{AnyBool, True, False}
pub mod Stores

mutual
  pub data Value : Type 0 where
    VBool : Bool → Value
    VLong : ℤ → Value
    VString : Text → Value
    VEntity : Uid → Value
    -- a set, by a list of its members
    VSet : Values → Value
    -- a record, by its keys
    VRecord : Entries → Value
    -- a value of an extension type: the type's name, and a text
    VExtension : Path → Text → Value

  pub data Values : Type 0 where
    no_values : Values
    more_values : Value → Values → Values

  pub data Entries : Type 0 where
    no_entries : Entries
    more_entries : Text → Value → Entries → Entries

-- the value at a key
abbrev pub entry_at : Text → Entries → Option Value
entry_at k no_entries = None
entry_at k (more_entries l v es) = if text_eq k l then Some v else entry_at k es

-- the keys
abbrev pub entry_keys : Entries → List Text
entry_keys no_entries = []
entry_keys (more_entries k v es) = k ∷ entry_keys es

-- ---- tests by kind: a demand on a value of a kind; no other value passes

abbrev pub OnBool : (Bool → Type 0) → Value → Type 0
OnBool P (VBool b) = P b
OnBool P (VLong n) = ⊥
OnBool P (VString t) = ⊥
OnBool P (VEntity u) = ⊥
OnBool P (VSet vs) = ⊥
OnBool P (VRecord es) = ⊥
OnBool P (VExtension n t) = ⊥

abbrev pub IsLong : Value → Type 0
IsLong (VBool b) = ⊥
IsLong (VLong n) = Unit {0}
IsLong (VString t) = ⊥
IsLong (VEntity u) = ⊥
IsLong (VSet vs) = ⊥
IsLong (VRecord es) = ⊥
IsLong (VExtension n t) = ⊥

abbrev pub IsString : Value → Type 0
IsString (VBool b) = ⊥
IsString (VLong n) = ⊥
IsString (VString t) = Unit {0}
IsString (VEntity u) = ⊥
IsString (VSet vs) = ⊥
IsString (VRecord es) = ⊥
IsString (VExtension n t) = ⊥

abbrev pub OnEntity : (Uid → Type 0) → Value → Type 0
OnEntity P (VBool b) = ⊥
OnEntity P (VLong n) = ⊥
OnEntity P (VString t) = ⊥
OnEntity P (VEntity u) = P u
OnEntity P (VSet vs) = ⊥
OnEntity P (VRecord es) = ⊥
OnEntity P (VExtension n t) = ⊥

abbrev pub OnSet : (Values → Type 0) → Value → Type 0
OnSet P (VBool b) = ⊥
OnSet P (VLong n) = ⊥
OnSet P (VString t) = ⊥
OnSet P (VEntity u) = ⊥
OnSet P (VSet vs) = P vs
OnSet P (VRecord es) = ⊥
OnSet P (VExtension n t) = ⊥

abbrev pub OnRecord : (Entries → Type 0) → Value → Type 0
OnRecord P (VBool b) = ⊥
OnRecord P (VLong n) = ⊥
OnRecord P (VString t) = ⊥
OnRecord P (VEntity u) = ⊥
OnRecord P (VSet vs) = ⊥
OnRecord P (VRecord es) = P es
OnRecord P (VExtension n t) = ⊥

abbrev pub OnExtension : (Path → Type 0) → Value → Type 0
OnExtension P (VBool b) = ⊥
OnExtension P (VLong n) = ⊥
OnExtension P (VString t) = ⊥
OnExtension P (VEntity u) = ⊥
OnExtension P (VSet vs) = ⊥
OnExtension P (VRecord es) = ⊥
OnExtension P (VExtension n t) = P n

-- each member passes
abbrev pub AllValues : (Value → Type 0) → Values → Type 0
AllValues P no_values = Unit {0}
AllValues P (more_values v vs) = P v × AllValues P vs

-- the value of each entry passes
abbrev pub AllEntries : (Value → Type 0) → Entries → Type 0
AllEntries P no_entries = Unit {0}
AllEntries P (more_entries k v es) = P v × AllEntries P es

-- ---- the values of a type

-- the truth values of a kind: each for Bool; for True and False the one named
abbrev pub HasKind : BoolType → Bool → Type 0
HasKind AnyBool b = Unit {0}
HasKind True b = IsTrue b
HasKind False b = IsTrue (not b)

-- an attribute that is present has its type, and a required one is present
abbrev pub HasAttr : Bool → (Value → Type 0) → Option Value → Type 0
HasAttr required P None = IsTrue (not required)
HasAttr required P (Some v) = P v

-- each key is one of the names
abbrev pub KeysAmong : List Text → Entries → Type 0
KeysAmong ks no_entries = Unit {0}
KeysAmong ks (more_entries k v es) = IsTrue (list_any (text_eq k) ks) × KeysAmong ks es

-- a closed record has no other key
abbrev pub IsClosedBy : Bool → List Text → Entries → Type 0
IsClosedBy true ks es = Unit {0}
IsClosedBy false ks es = KeysAmong ks es

abbrev mutual
  -- v has the type: no value has Never; a set of a type has members of that type; a record has each
  -- required key, values of their types at the declared keys, and, if it is closed, no other key;
  -- an entity is of one of the types
  pub HasType : Ty → Value → Type 0
  HasType TNever = λ v. ⊥
  HasType (TBool k) = OnBool (HasKind k)
  HasType TLong = IsLong
  HasType TString = IsString
  HasType (TSet t) = OnSet (AllValues (HasType t))
  HasType TAnySet = OnSet (λ vs. Unit {0})
  HasType (TRecord xs o) = OnRecord (λ es. HasAttrs xs es × IsClosedBy o (attr_names xs) es)
  HasType (TEntity ps) = OnEntity (λ u. IsTrue (is_among ps u.entity_type))
  HasType TAnyEntity = OnEntity (λ u. Unit {0})
  HasType (TExtension n) = OnExtension (λ m. m ≡ n)

  pub HasAttrs : Attrs → Entries → Type 0
  HasAttrs no_attrs es = Unit {0}
  HasAttrs (attr k t r xs) es = HasAttr r (HasType t) (entry_at k es) × HasAttrs xs es
