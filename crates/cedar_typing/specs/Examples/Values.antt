-- Values and the types that they have.
use Rattle.std.specs.Prelude.{pos, true, false, [], ◌∷◌, codes}
use Rattle.cedar_types.specs.declared.base.types.BoolType.TheVariants.{AnyBool, True, False}
use Rattle.cedar_types.specs.Names.{Text}
use Rattle.cedar_types.specs.Types.{Ty, TNever, TBool, TLong, TString, TSet, TAnySet, TRecord, TEntity, TAnyEntity, TExtension, Attrs}
use Rattle.cedar_types.specs.Types.{no_attrs, attr}
use Rattle.cedar_types.specs.Values.{Value, VBool, VEntity, VSet, VRecord, VExtension, no_values, no_entries, more_entries, HasType}
use Rattle.cedar_typing.specs.Examples.Greeting.{number, words, one_value, two_values, a_decimal}
use Rattle.cedar_typing.specs.Examples.World.{user, group, robot, decimal, duration, alice}

-- the value has the type, or has it not
abbrev pub Has : Ty → Value → Type 0
Has t v = HasType t v

abbrev pub HasNot : Ty → Value → Type 0
HasNot t v = HasType t v → ⊥

-- ---- records

-- `{}`, `{a: 1}`, `{a: true}`, `{b: true}`, `{a: 1, b: true}`
abbrev pub empty : Value
empty = VRecord no_entries

abbrev pub with_one : Text → Value → Value
with_one x v = VRecord (more_entries x v no_entries)

abbrev pub a_number : Value
a_number = with_one (codes "a") (number (pos 1))

abbrev pub a_boolean : Value
a_boolean = with_one (codes "a") (VBool true)

abbrev pub b_boolean : Value
b_boolean = with_one (codes "b") (VBool true)

abbrev pub both : Value
both =
    VRecord
    (more_entries (codes "a") (number (pos 1)) (more_entries (codes "b") (VBool true) no_entries))

-- an attribute `a` that is a number
abbrev pub required : Attrs
required = attr (codes "a") TLong true no_attrs

abbrev pub optional : Attrs
optional = attr (codes "a") TLong false no_attrs

pub record RecordsOfType : Type 0 where
  -- `{a: Long}`: that key and no other
  pub closed : Has (TRecord required false) a_number
  pub closed_absent : HasNot (TRecord required false) empty
  pub closed_other_type : HasNot (TRecord required false) a_boolean
  pub closed_more : HasNot (TRecord required false) both
  pub closed_other_key : HasNot (TRecord required false) b_boolean
  -- `{a?: Long}`: the key may be absent
  pub optional_there : Has (TRecord optional false) a_number
  pub optional_absent : Has (TRecord optional false) empty
  pub optional_other_type : HasNot (TRecord optional false) a_boolean
  pub optional_more : HasNot (TRecord optional false) both
  pub optional_other_key : HasNot (TRecord optional false) b_boolean
  -- `{a: Long, ..}`, which is open: other keys too, of any type
  pub open_exact : Has (TRecord required true) a_number
  pub open_more : Has (TRecord required true) both
  pub open_absent : HasNot (TRecord required true) empty
  pub open_other_type : HasNot (TRecord required true) a_boolean
  pub open_other_key : HasNot (TRecord required true) b_boolean
  -- `{a?: Long, ..}`
  pub open_optional_absent : Has (TRecord optional true) b_boolean
  pub open_optional_other_type : HasNot (TRecord optional true) a_boolean
  -- `{..}`: each record, and nothing else
  pub any_record : Has (TRecord no_attrs true) both
  pub any_record_number : HasNot (TRecord no_attrs true) (number (pos 1))
  pub any_record_entity : HasNot (TRecord no_attrs true) (VEntity alice)

-- ---- sets

-- `[]`, `[1]`, `[1, true]`, `[true, 1]`
abbrev pub empty_set : Value
empty_set = VSet no_values

abbrev pub a_set : Value
a_set = VSet (one_value (number (pos 1)))

abbrev pub mixed : Value
mixed = VSet (two_values (number (pos 1)) (VBool true))

abbrev pub mixed_back : Value
mixed_back = VSet (two_values (VBool true) (number (pos 1)))

pub record SetsOfType : Type 0 where
  -- Set<Long>: each member is a number
  pub of_numbers : Has (TSet TLong) a_set
  pub of_numbers_empty : Has (TSet TLong) empty_set
  pub of_numbers_mixed : HasNot (TSet TLong) mixed
  pub of_numbers_mixed_back : HasNot (TSet TLong) mixed_back
  pub of_numbers_number : HasNot (TSet TLong) (number (pos 1))
  -- Set<Set<Long>>
  pub of_sets : Has (TSet (TSet TLong)) (VSet (one_value a_set))
  pub of_sets_number : HasNot (TSet (TSet TLong)) a_set
  -- Set<Never>: the set without members
  pub of_never_empty : Has (TSet TNever) empty_set
  pub of_never : HasNot (TSet TNever) a_set
  -- a set of anything: each set, and nothing else
  pub of_anything : Has TAnySet mixed
  pub of_anything_empty : Has TAnySet empty_set
  pub of_anything_number : HasNot TAnySet (number (pos 1))
  pub of_anything_record : HasNot TAnySet empty

-- ---- entities

-- `Robot::"r"`, `Group::"g"`
abbrev pub a_robot : Value
a_robot = VEntity (record { entity_type = robot; eid = codes "r" })

abbrev pub a_group : Value
a_group = VEntity (record { entity_type = group; eid = codes "g" })

pub record EntitiesOfType : Type 0 where
  -- `User`
  pub one_type : Has (TEntity (user ∷ [])) (VEntity alice)
  pub one_type_other : HasNot (TEntity (user ∷ [])) a_robot
  -- `User` or `Robot`: an entity of either, and of no other
  pub first_type : Has (TEntity (user ∷ robot ∷ [])) (VEntity alice)
  pub second_type : Has (TEntity (user ∷ robot ∷ [])) a_robot
  pub other_type : HasNot (TEntity (user ∷ robot ∷ [])) a_group
  pub two_types_text : HasNot (TEntity (user ∷ robot ∷ [])) (words (codes "alice"))
  -- an entity type without names has no value
  pub no_type : HasNot (TEntity []) (VEntity alice)
  -- any entity
  pub any_entity : Has TAnyEntity a_group
  pub any_entity_text : HasNot TAnyEntity (words (codes "alice"))
  pub any_entity_record : HasNot TAnyEntity empty

-- ---- booleans, numbers, texts and extension values

pub record LeavesOfType : Type 0 where
  -- Never: no value
  pub never : (v : Value) → HasNot TNever v
  -- Bool, True and False
  pub bool_true : Has (TBool AnyBool) (VBool true)
  pub bool_false : Has (TBool AnyBool) (VBool false)
  pub bool_number : HasNot (TBool AnyBool) (number (pos 1))
  pub true_true : Has (TBool True) (VBool true)
  pub true_false : HasNot (TBool True) (VBool false)
  pub false_false : Has (TBool False) (VBool false)
  pub false_true : HasNot (TBool False) (VBool true)
  -- Long and String
  pub long : Has TLong (number (pos 1))
  pub long_boolean : HasNot TLong (VBool true)
  pub long_text : HasNot TLong (words (codes "1"))
  pub string : Has TString (words (codes "1"))
  pub string_number : HasNot TString (number (pos 1))
  pub string_extension : HasNot TString (a_decimal (codes "1"))
  -- `decimal`: no value of another extension type, and no text
  pub extension : Has (TExtension decimal) (a_decimal (codes "1"))
  pub extension_other : HasNot (TExtension decimal) (VExtension duration (codes "1"))
  pub extension_text : HasNot (TExtension decimal) (words (codes "1"))
