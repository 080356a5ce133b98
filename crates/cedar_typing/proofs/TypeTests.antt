-- Tests of types, and the facts that follow from them.
use Rattle.std.proofs.Common.{◌≡◌, true, false, Option, Some, None, refl, ap}
use Rattle.cedar_types.specs.declared.base.types.BoolType.TheVariants.{True, False}
use Rattle.cedar_types.specs.Types.{Ty, TBool}
use Rattle.cedar_typing.specs.TypeTests.{is_false, is_true, annotation_passes}
pub mod VariableTypes

pub false_type : (t : Ty) → is_false t ≡ true → t ≡ TBool False
false_type (TBool False) h = refl
false_type t h = cc

pub true_type : (t : Ty) → is_true t ≡ true → t ≡ TBool True
true_type (TBool True) h = refl
true_type t h = cc

-- no type is both True and False
pub true_is_not_false : (x : Option Ty) → annotation_passes is_true x ≡ true → annotation_passes is_false x ≡ false
true_is_not_false None h = refl
true_is_not_false (Some t) h = ap is_false (true_type t h)

pub false_is_not_true : (x : Option Ty) → annotation_passes is_false x ≡ true → annotation_passes is_true x ≡ false
false_is_not_true None h = refl
false_is_not_true (Some t) h = ap is_true (false_type t h)
