-- Tests of types: the expected types of operands, and the tests that the rules make of the type of
-- a part.
use Rattle.std.specs.Prelude.{Bool, true, false, List, [], ◌∷◌, Option, Some, None}
use Rattle.std.specs.List.{list_any}
use Rattle.cedar_types.specs.declared.base.types.BoolType.TheVariants.{AnyBool, True, False}
use Rattle.cedar_types.specs.declared.base.types.ValidationMode.TheVariants.{Permissive}
use Rattle.cedar_types.specs.Types.{Ty, TBool, TLong, TString, TSet, TAnySet, TRecord, TAnyEntity, no_attrs}
use Rattle.cedar_types.specs.Types.Bounds.{is_subtype}
pub mod Joins

-- ---- expected types of operands

-- a type is accepted if it is a subtype of an expected one, in every mode by the subtypes of
-- Permissive, because those of Strict are too narrow: an access needs any record, and finds one
-- with attributes
abbrev pub accepts : List Ty → Ty → Bool
accepts ts t = list_any (is_subtype Permissive t) ts

abbrev pub bool_types : List Ty
bool_types = TBool AnyBool ∷ []

abbrev pub long_types : List Ty
long_types = TLong ∷ []

abbrev pub string_types : List Ty
string_types = TString ∷ []

-- any set
abbrev pub set_types : List Ty
set_types = TAnySet ∷ []

-- any entity
abbrev pub entity_types : List Ty
entity_types = TAnyEntity ∷ []

-- any entity, or any set of entities
abbrev pub ancestor_types : List Ty
ancestor_types = TSet TAnyEntity ∷ TAnyEntity ∷ []

-- any record or any entity
abbrev pub object_types : List Ty
object_types = TRecord no_attrs true ∷ TAnyEntity ∷ []

-- ---- the type of a part

abbrev pub is_false : Ty → Bool
is_false (TBool False) = true
is_false t = false

abbrev pub is_true : Ty → Bool
is_true (TBool True) = true
is_true t = false

-- whether the type is Bool, neither True nor False
abbrev pub is_any_bool : Ty → Bool
is_any_bool (TBool AnyBool) = true
is_any_bool t = false

abbrev pub is_record : Ty → Bool
is_record (TRecord xs o) = true
is_record t = false

-- whether a type was found, and passes the test
abbrev pub annotation_passes : (Ty → Bool) → Option Ty → Bool
annotation_passes test None = false
annotation_passes test (Some t) = test t
