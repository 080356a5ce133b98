-- The test of types decides which values have a type.
use Rattle.std.proofs.Common.{◌≡◌, refl, sym, Bool, true, false, not, ◌&&◌, true≢false, List, Option, Some, None, is_some, IsTrue}
use Rattle.std.specs.Bool.{Decides}
use Rattle.std.specs.List.{list_any}
use Rattle.std.proofs.lemmas.Bool.Decides.{Decides-and}
use Rattle.cedar_types.specs.Names.{Text, Path, text_eq, path_eq}
use Rattle.cedar_types.specs.Types.{Ty, TNever, TBool, TLong, TString, TSet, TAnySet, TRecord, TEntity, TAnyEntity, TExtension, Attrs}
use Rattle.cedar_types.specs.Types.{no_attrs, attr, attr_names}
use Rattle.cedar_types.specs.Schemas.{is_among}
use Rattle.cedar_types.specs.Values.{Value, VBool, VLong, VString, VEntity, VSet, VRecord, VExtension, Values, no_values, more_values}
use Rattle.cedar_types.specs.Values.{Entries, no_entries, more_entries, entry_at, OnBool, IsLong, IsString, OnEntity, OnSet, OnRecord}
use Rattle.cedar_types.specs.Values.{OnExtension, AllValues, AllEntries, HasKind, HasAttr, KeysAmong, IsClosedBy, HasType, HasAttrs}
use Rattle.cedar_types.specs.declared.base.types.BoolType.{BoolType}
use Rattle.cedar_types.specs.declared.base.types.BoolType.TheVariants.{AnyBool, True, False}
use Rattle.cedar_types.proofs.Names.Ids.{path_decides}
use Rattle.cedar_conformance.specs.Tests.{bool_in, is_long, is_string, entity_in, set_in, record_in, extension_in, passes, all_values}
use Rattle.cedar_conformance.specs.Tests.{all_entries, has_kind, has_attr, keys_among, is_closed_by, has_type, have_attrs}

-- three decisions: the property that always holds, the one that never does, and a test itself
pub always : Decides true (Unit {0})
always = (λ e. tt, λ h. refl)

pub never : Decides false ⊥
never = (λ e. absurd (true≢false (sym e)), λ h. absurd h)

pub itself : (b : Bool) → Decides b (IsTrue b)
itself b = (λ e. e, λ h. h)

kind_decides : (k : BoolType) (b : Bool) → Decides (has_kind k b) (HasKind k b)
kind_decides AnyBool b = always
kind_decides True b = itself b
kind_decides False b = itself (not b)

-- ---- by kinds

on_bool : (k : BoolType) (v : Value) → Decides (passes (has_kind k) (bool_in v)) (OnBool (HasKind k) v)
on_bool k (VBool b) = kind_decides k b
on_bool k v = never

long_decides : (v : Value) → Decides (is_long v) (IsLong v)
long_decides (VLong n) = always
long_decides v = never

string_decides : (v : Value) → Decides (is_string v) (IsString v)
string_decides (VString t) = always
string_decides v = never

on_entity : (ps : List Path) (v : Value)
    → Decides (passes (λ u. is_among ps u.entity_type) (entity_in v)) (OnEntity (λ u. IsTrue (is_among ps u.entity_type)) v)
on_entity ps (VEntity u) = itself (is_among ps u.entity_type)
on_entity ps v = never

any_entity : (v : Value) → Decides (is_some (entity_in v)) (OnEntity (λ u. Unit {0}) v)
any_entity (VEntity u) = always
any_entity v = never

any_set : (v : Value) → Decides (is_some (set_in v)) (OnSet (λ vs. Unit {0}) v)
any_set (VSet vs) = always
any_set v = never

on_extension : (n : Path) (v : Value) → Decides (passes (λ m. path_eq m n) (extension_in v)) (OnExtension (λ m. m ≡ n) v)
on_extension n (VExtension m t) = path_decides m n
on_extension n v = never

-- ---- of all

members_decide : (p : Value → Bool) (P : Value → Type 0) → ((v : Value) → Decides (p v) (P v)) → (vs : Values)
    → Decides (all_values p vs) (AllValues P vs)
members_decide p P h no_values = always
members_decide p P h (more_values v vs) = Decides-and (p v) (all_values p vs) (h v) (members_decide p P h vs)

pub entries_decide : (p : Value → Bool) (P : Value → Type 0) → ((v : Value) → Decides (p v) (P v)) → (es : Entries)
    → Decides (all_entries p es) (AllEntries P es)
entries_decide p P h no_entries = always
entries_decide p P h (more_entries k v es) = Decides-and (p v) (all_entries p es) (h v) (entries_decide p P h es)

on_set : (p : Value → Bool) (P : Value → Type 0) → ((v : Value) → Decides (p v) (P v)) → (v : Value)
    → Decides (passes (all_values p) (set_in v)) (OnSet (AllValues P) v)
on_set p P h (VSet vs) = members_decide p P h vs
on_set p P h v = never

-- ---- records

on_record : (p : Entries → Bool) (P : Entries → Type 0) → ((es : Entries) → Decides (p es) (P es)) → (v : Value)
    → Decides (passes p (record_in v)) (OnRecord P v)
on_record p P h (VRecord es) = h es
on_record p P h v = never

pub keys_decide : (ks : List Text) (es : Entries) → Decides (keys_among ks es) (KeysAmong ks es)
keys_decide ks no_entries = always
keys_decide ks (more_entries k v es) =
    Decides-and (list_any (text_eq k) ks) (keys_among ks es) (itself (list_any (text_eq k) ks)) (keys_decide ks es)

closed_decides : (o : Bool) (ks : List Text) (es : Entries) → Decides (is_closed_by o ks es) (IsClosedBy o ks es)
closed_decides true ks es = always
closed_decides false ks es = keys_decide ks es

attr_decides : (r : Bool) (p : Value → Bool) (P : Value → Type 0) → ((v : Value) → Decides (p v) (P v)) → (o : Option Value)
    → Decides (has_attr r p o) (HasAttr r P o)
attr_decides r p P h None = itself (not r)
attr_decides r p P h (Some v) = h v

-- the two tests of entries decide whether they are those of a record with these attributes
record_decides : (xs : Attrs) (o : Bool) → ((es : Entries) → Decides (have_attrs xs es) (HasAttrs xs es)) → (es : Entries)
    → Decides (have_attrs xs es && is_closed_by o (attr_names xs) es) (HasAttrs xs es × IsClosedBy o (attr_names xs) es)
record_decides xs o h es =
    Decides-and (have_attrs xs es) (is_closed_by o (attr_names xs) es) (h es) (closed_decides o (attr_names xs) es)

-- ---- types

mutual
  pub type_decides : (t : Ty) (v : Value) → Decides (has_type t v) (HasType t v)
  type_decides TNever v = never
  type_decides (TBool k) v = on_bool k v
  type_decides TLong v = long_decides v
  type_decides TString v = string_decides v
  type_decides (TSet t) v = on_set (has_type t) (HasType t) (type_decides t) v
  type_decides TAnySet v = any_set v
  type_decides (TRecord xs o) v =
      on_record (λ es. have_attrs xs es && is_closed_by o (attr_names xs) es)
      (λ es. HasAttrs xs es × IsClosedBy o (attr_names xs) es) (record_decides xs o (attrs_decide xs)) v
  type_decides (TEntity ps) v = on_entity ps v
  type_decides TAnyEntity v = any_entity v
  type_decides (TExtension n) v = on_extension n v

  pub attrs_decide : (xs : Attrs) (es : Entries) → Decides (have_attrs xs es) (HasAttrs xs es)
  attrs_decide no_attrs es = always
  attrs_decide (attr k t r xs) es =
      Decides-and (has_attr r (has_type t) (entry_at k es)) (have_attrs xs es)
      (attr_decides r (has_type t) (HasType t) (type_decides t) (entry_at k es)) (attrs_decide xs es)
