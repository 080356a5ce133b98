-- A value of one of two kept types has their bound, in Strict and in the other modes.
use Rattle.std.proofs.Common.{◌≡◌, Bool, true, false, Some, refl}
use Rattle.cedar_types.specs.declared.base.types.ValidationMode.{ValidationMode}
use Rattle.cedar_types.specs.Types.{Ty}
use Rattle.cedar_types.specs.Types.Bounds.{is_strict, lub}
use Rattle.cedar_types.specs.Values.{Value, HasType}
use Rattle.cedar_typing.proofs.Bounds.Strict.{lub_right_strict}
use Rattle.cedar_typing.proofs.Bounds.Values.{lub_right}
use Rattle.cedar_typing.proofs.KeptTypes.Types.{KeptIn}

-- a value of the right type has the bound: in Strict for any types, else for well-formed ones
pub right_kept : (strictly : Bool) (m : ValidationMode) → is_strict m ≡ strictly → (s t u : Ty) → KeptIn strictly s → KeptIn strictly t
    → lub m s t ≡ Some u → (v : Value) → HasType t v → HasType u v
right_kept true m strict s t u n k e v h = lub_right_strict m s t u strict e v h
right_kept false m strict s t u n k e v h = lub_right m s t u (n.1 refl) (k.1 refl) e v h
