-- Records by their keys: lookups in a record, and the test that a name is among some attributes.
use Rattle.std.proofs.Common.{◌≡◌, refl, ap, ◌∙◌, Bool, true, false, ◌||◌, List, [], ◌∷◌, Option, Some, None, option_map}
use Rattle.std.proofs.Common.{if◌then◌else◌, is_some, suc, length, IsTrue, ◌↔◌}
use Rattle.std.specs.BTreeMap.{BTreeMap, btree_map_len, is_at}
use Rattle.std.specs.Borrow.{Bor}
use Rattle.std.specs.Cmp.Lexicographic.{texts_ties}
use Rattle.std.specs.List.{list_any}
use Rattle.std.specs.Map.{lookup}
use Rattle.std.specs.Option.{option_copied}
use Rattle.std.specs.Ordering.{is_eq}
use Rattle.std.specs.declared.alloc.Global.{Global}
use Rattle.std.specs.declared.rc.RcStr.{RcStr}
use Rattle.cedar_types.specs.Names.{Text, text_of, text_eq}
use Rattle.cedar_types.specs.Types.{Ty, Attrs, no_attrs, attr, attr_names}
use Rattle.cedar_types.specs.Types.Bounds.{find_attr}
use Rattle.cedar_types.specs.Values as plain
use Rattle.cedar_types.specs.Values.{entry_at}
use Rattle.cedar_types.proofs.Attributes.Records.{key_cmp}
use Rattle.cedar_conformance.specs.StoreTests.{is_empty_record}
use Rattle.cedar_conformance.specs.declared.values.Value.{Value}
use Rattle.cedar_conformance.specs.Values.{value_of, entries_of, record_of}

-- a record has at a key the value that its map has there
pub found : (k : RcStr Global) (es : List (RcStr Global × Value))
    → entry_at (text_of k) (entries_of es) ≡ option_map value_of (lookup (is_at (key_cmp k)) es)
found k [] = refl
found k (e ∷ es) =
    ap (λ b. if◌then◌else◌ {A = Option plain.Value} b (Some (value_of e.1)) (entry_at (text_of k) (entries_of es)))
    (texts_ties (text_of k) (text_of e.0))
    ∙ at (is_eq (key_cmp k e.0)) (lookup (is_at (key_cmp k)) es) (entry_at (text_of k) (entries_of es)) (found k es)
  where
    at : (b : Bool) (o : Option Value) (p : Option plain.Value) → p ≡ option_map value_of o
        → if◌then◌else◌ {A = Option plain.Value} b (Some (value_of e.1)) p ≡ option_map value_of (if b then Some e.1 else o)
    at true o p h = refl
    at false o p h = h

-- a lent value is viewed as the value itself
pub lent : (r : Option (Bor Value)) → option_map (λ v. value_of v.now) r ≡ option_map value_of (option_copied r)
lent None = refl
lent (Some v) = refl

-- a name is found among attributes iff it is one of their names
pub named : (k : Text) (xs : Attrs) → is_some (find_attr k xs) ≡ list_any (text_eq k) (attr_names xs)
named k no_attrs = refl
named k (attr l t r xs) = at (text_eq k l) (named k xs)
  where
    at : (b : Bool) → is_some (find_attr k xs) ≡ list_any (text_eq k) (attr_names xs)
        → is_some (if◌then◌else◌ {A = Option (Ty × Bool)} b (Some (t, r)) (find_attr k xs)) ≡ (b || list_any (text_eq k) (attr_names xs))
    at true h = refl
    at false h = h

pub mapped_some : {X Y : Type 0} (f : X → Y) (o : Option X) → is_some (option_map f o) ≡ is_some o
mapped_some f None = refl
mapped_some f (Some x) = refl

-- a record is empty iff its map is
pub empty_record : (m : BTreeMap (RcStr Global) Value) (b : Bool) → (IsTrue b ↔ (btree_map_len m ≡ 0)) → b ≡ is_empty_record (record_of m)
empty_record m b h = at m.entries b h
  where
    at : (es : List (RcStr Global × Value)) (b : Bool) → (IsTrue b ↔ (length es ≡ 0)) → b ≡ is_empty_record (entries_of es)
    at [] b h = h.1 refl
    at (e ∷ es) true h =
        let no : suc (length es) ≡ 0 = h.0 refl in cc
    at (e ∷ es) false h = refl
