-- Equality of values: of sets by their members, of records by their keys and values.
use Rattle.std.specs.Prelude.{◌≡◌, Bool, true, false, ◌&&◌, ◌||◌, List, [], ◌∷◌, Option, Some, None, ℤ, map, if◌then◌else◌}
use Rattle.std.specs.List.{list_all}
use Rattle.std.specs.Ordering.{int_eq}
use Rattle.cedar_types.specs.Names.{Text, Path, Uid, text_eq, path_eq, uid_eq}
use Rattle.cedar_types.specs.Names.Comparisons.{bool_eq}
use Rattle.cedar_types.specs.Values.{Value, VBool, VLong, VString, VEntity, VSet, VRecord, VExtension, Values, no_values, more_values}
use Rattle.cedar_types.specs.Values.{Entries, no_entries, more_entries, entry_at, entry_keys}

-- each member passes the test
abbrev pub all_values : (Value → Bool) → Values → Bool
all_values p no_values = true
all_values p (more_values v vs) = p v && all_values p vs

-- some member passes the test
abbrev pub any_value : (Value → Bool) → Values → Bool
any_value p no_values = false
any_value p (more_values v vs) = p v || any_value p vs

-- ---- tests of being equal to a given value

abbrev pub is_bool : Bool → Value → Bool
is_bool a (VBool b) = bool_eq a b
is_bool a v = false

abbrev pub is_long : ℤ → Value → Bool
is_long a (VLong b) = int_eq a b
is_long a v = false

abbrev pub is_string : Text → Value → Bool
is_string a (VString b) = text_eq a b
is_string a v = false

abbrev pub is_entity : Uid → Value → Bool
is_entity a (VEntity b) = uid_eq a b
is_entity a v = false

abbrev pub is_extension : Path → Text → Value → Bool
is_extension n a (VExtension m b) = path_eq n m && text_eq a b
is_extension n a v = false

-- v passes one of the tests
abbrev pub passes_any : List (Value → Bool) → Value → Bool
passes_any [] v = false
passes_any (p ∷ ps) v = p v || passes_any ps v

-- a value is a set, each test is passed by one of its members, and each of its members passes a test
abbrev pub is_set_of : List (Value → Bool) → Value → Bool
is_set_of ps (VSet vs) = list_all (λ p. any_value p vs) ps && all_values (passes_any ps) vs
is_set_of ps v = false

-- the test at a key
abbrev pub test_at : Text → List (Text × (Value → Bool)) → Option (Value → Bool)
test_at k [] = None
test_at k (t ∷ ts) = if text_eq k t.0 then Some t.1 else test_at k ts

-- at a key there is a test and a value that passes it, or neither
abbrev pub agree : Option (Value → Bool) → Option Value → Bool
agree None None = true
agree None (Some v) = false
agree (Some p) None = false
agree (Some p) (Some v) = p v

abbrev pub agree_at : List (Text × (Value → Bool)) → Entries → Text → Bool
agree_at ts es k = agree (test_at k ts) (entry_at k es)

-- a value is a record with the keys of the tests and no other, each with a value that passes the key's test
abbrev pub is_record_of : List (Text × (Value → Bool)) → Value → Bool
is_record_of ts (VRecord es) =
    list_all (agree_at ts es) (map (λ t. t.0) ts) && list_all (agree_at ts es) (entry_keys es)
is_record_of ts v = false

abbrev mutual
  -- two values are equal if they are of one kind, and have the same truth value, number, text, entity or text of an
  -- extension type; or are sets each of whose members equals one of the other; or records with the same keys and equal
  -- values at each
  pub same_value : Value → Value → Bool
  same_value (VBool a) = is_bool a
  same_value (VLong a) = is_long a
  same_value (VString a) = is_string a
  same_value (VEntity a) = is_entity a
  same_value (VSet vs) = is_set_of (members_tests vs)
  same_value (VRecord es) = is_record_of (entries_tests es)
  same_value (VExtension n a) = is_extension n a

  pub members_tests : Values → List (Value → Bool)
  members_tests no_values = []
  members_tests (more_values v vs) = same_value v ∷ members_tests vs

  pub entries_tests : Entries → List (Text × (Value → Bool))
  entries_tests no_entries = []
  entries_tests (more_entries k v es) = (k, same_value v) ∷ entries_tests es

-- two lists of values are equal, one by one
abbrev pub same_values : Values → Values → Bool
same_values no_values no_values = true
same_values no_values (more_values w ws) = false
same_values (more_values v vs) no_values = false
same_values (more_values v vs) (more_values w ws) = same_value v w && same_values vs ws

-- ---- equality is an equivalence on all values, even on records in which a key comes twice
pub record EqualityIsAnEquivalence : Type 0 where
  -- each value equals itself
  pub reflexive : (v : Value) → same_value v v ≡ true
  -- if v equals w, then w equals v
  pub symmetric : (v w : Value) → same_value v w ≡ true → same_value w v ≡ true
  -- if u equals v, and v equals w, then u equals w
  pub transitive : (u v w : Value) → same_value u v ≡ true → same_value v w ≡ true
      → same_value u w ≡ true

-- the order of the two values never matters
abbrev pub EqualityHasNoOrder : Type 0
EqualityHasNoOrder = (v w : Value) → same_value v w ≡ same_value w v
