-- The values have the types that are stated, by computation.
use Rattle.std.proofs.Common.{◌≡◌, true, false, refl, ◌∙◌, ap}
use Rattle.cedar_types.specs.Lemmas.Comparisons.{path_same}
use Rattle.cedar_types.specs.Names.{path_eq}
use Rattle.cedar_typing.specs.Examples.Values.{RecordsOfType, SetsOfType, EntitiesOfType, LeavesOfType}
use Rattle.cedar_typing.specs.Examples.World.{decimal}

false_is_not_true : false ≡ true → ⊥
false_is_not_true h = cc

pub records_of_type : RecordsOfType
records_of_type = record {
  closed = ((tt, tt), (refl, tt));
  closed_absent = λ h. false_is_not_true h.0.0;
  closed_other_type = λ h. h.0.0;
  closed_more = λ h. false_is_not_true h.1.1.0;
  closed_other_key = λ h. false_is_not_true h.0.0;
  optional_there = ((tt, tt), (refl, tt));
  optional_absent = ((refl, tt), tt);
  optional_other_type = λ h. h.0.0;
  optional_more = λ h. false_is_not_true h.1.1.0;
  optional_other_key = λ h. false_is_not_true h.1.0;
  open_exact = ((tt, tt), tt);
  open_more = ((tt, tt), tt);
  open_absent = λ h. false_is_not_true h.0.0;
  open_other_type = λ h. h.0.0;
  open_other_key = λ h. false_is_not_true h.0.0;
  open_optional_absent = ((refl, tt), tt);
  open_optional_other_type = λ h. h.0.0;
  any_record = (tt, tt);
  any_record_number = λ h. h;
  any_record_entity = λ h. h;
}

pub sets_of_type : SetsOfType
sets_of_type = record {
  of_numbers = (tt, tt);
  of_numbers_empty = tt;
  of_numbers_mixed = λ h. h.1.0;
  of_numbers_mixed_back = λ h. h.0;
  of_numbers_number = λ h. h;
  of_sets = ((tt, tt), tt);
  of_sets_number = λ h. h.0;
  of_never_empty = tt;
  of_never = λ h. h.0;
  of_anything = tt;
  of_anything_empty = tt;
  of_anything_number = λ h. h;
  of_anything_record = λ h. h;
}

pub entities_of_type : EntitiesOfType
entities_of_type = record {
  one_type = refl;
  one_type_other = λ h. false_is_not_true h;
  first_type = refl;
  second_type = refl;
  other_type = λ h. false_is_not_true h;
  two_types_text = λ h. h;
  no_type = λ h. false_is_not_true h;
  any_entity = tt;
  any_entity_text = λ h. h;
  any_entity_record = λ h. h;
}

pub leaves_of_type : LeavesOfType
leaves_of_type = record {
  never = λ v h. h;
  bool_true = tt;
  bool_false = tt;
  bool_number = λ h. h;
  true_true = refl;
  true_false = λ h. false_is_not_true h;
  false_false = refl;
  false_true = λ h. false_is_not_true h;
  long = tt;
  long_boolean = λ h. h;
  long_text = λ h. h;
  string = tt;
  string_number = λ h. h;
  string_extension = λ h. h;
  extension = refl;
  extension_other = λ h. false_is_not_true (ap (path_eq decimal) h ∙ path_same.itself decimal);
  extension_text = λ h. h;
}
