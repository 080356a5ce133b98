-- The types for which the answers of Strict are kept in Permissive, and those for which they are
-- not, computed.
use Rattle.std.proofs.Common.{Bool, false, true≢false, Option, Some, None, refl, sym, ap}
use Rattle.cedar_types.specs.declared.base.types.BoolType.TheVariants.{AnyBool, True, False}
use Rattle.cedar_types.specs.declared.base.types.ValidationMode.TheVariants.{Strict, Permissive}
use Rattle.cedar_types.specs.Types.{Ty, TSet, TRecord}
use Rattle.cedar_typing.specs.Capabilities.{no_caps}
use Rattle.cedar_typing.specs.Examples.Expressions.{numbered}
use Rattle.cedar_typing.specs.Examples.Refinement.{twice, one_a, with_twice, both_records, FormIsNeededInStrict}
use Rattle.cedar_typing.specs.Examples.Rules.{IsTypedIn}
use Rattle.cedar_typing.specs.Refinement.{IsKept}
use Rattle.cedar_typing.proofs.Examples.Rules.{is_typed}
use Rattle.cedar_typing.proofs.Rules.Laws.{typing}

-- whether a record, or the elements of a set, may have more attributes
abbrev is_open : Ty → Bool
is_open (TSet (TRecord xs o)) = o
is_open (TRecord xs o) = o
is_open t = false

abbrev found_open : Option Ty → Bool
found_open None = false
found_open (Some t) = is_open t

strict_set : IsTypedIn (with_twice Strict) both_records (TSet (twice AnyBool))
strict_set = is_typed refl

permissive_set : IsTypedIn (with_twice Permissive) both_records (TSet one_a)
permissive_set = is_typed refl

breaks : IsKept (with_twice Strict) (numbered both_records) no_caps 1 → ⊥
breaks h =
    let k = h.derived (TSet (twice AnyBool)) no_caps strict_set.copy strict_set.has in
    let same = typing (with_twice Permissive) (numbered both_records) no_caps 1 (TSet (twice AnyBool)) (TSet one_a)
    no_caps no_caps strict_set.copy permissive_set.copy k permissive_set.has in
    true≢false (sym (ap is_open same.0))

pub form_is_needed_in_strict : FormIsNeededInStrict
form_is_needed_in_strict = record {
  strict_bound = refl;
  permissive_bound = refl;
  strict_set = strict_set;
  permissive_set = permissive_set;
  bound_breaks = λ h. true≢false (ap found_open (h (twice True) (twice False) (twice AnyBool) refl));
  breaks = breaks;
}
