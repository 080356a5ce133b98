-- The laws of bounds and subtypes.
use Rattle.std.specs.Prelude.{◌≡◌, true, Some}
use Rattle.cedar_types.specs.Types.{Ty, is_well_formed}
use Rattle.cedar_types.specs.Types.Bounds.{lub, is_subtype}
use Rattle.cedar_types.specs.declared.base.types.ValidationMode.{ValidationMode}

-- the bound of a type with itself is the type
abbrev pub BoundIsIdempotent : Type 0
BoundIsIdempotent = (m : ValidationMode) (t : Ty) → lub m t t ≡ Some t

-- the bound of two types does not depend on their order
abbrev pub BoundIsSymmetric : Type 0
BoundIsSymmetric =
    (m : ValidationMode) (s t : Ty)
    → is_well_formed s ≡ true → is_well_formed t ≡ true
    → lub m s t ≡ lub m t s

-- both types are subtypes of their bound
abbrev pub BoundIsUpper : Type 0
BoundIsUpper =
    (m : ValidationMode) (s t u : Ty)
    → is_well_formed s ≡ true → is_well_formed t ≡ true
    → lub m s t ≡ Some u
    → (is_subtype m s u ≡ true) × (is_subtype m t u ≡ true)

-- the bound of well-formed types is well-formed
abbrev pub BoundKeepsForm : Type 0
BoundKeepsForm =
    (m : ValidationMode) (s t u : Ty)
    → is_well_formed s ≡ true → is_well_formed t ≡ true
    → lub m s t ≡ Some u
    → is_well_formed u ≡ true

-- a type is a subtype of itself
abbrev pub SubtypingIsReflexive : Type 0
SubtypingIsReflexive = (m : ValidationMode) (t : Ty) → is_subtype m t t ≡ true

-- a subtype of a subtype is a subtype
abbrev pub SubtypingIsTransitive : Type 0
SubtypingIsTransitive =
    (m : ValidationMode) (s t u : Ty)
    → is_well_formed s ≡ true → is_well_formed t ≡ true → is_well_formed u ≡ true
    → is_subtype m s t ≡ true → is_subtype m t u ≡ true
    → is_subtype m s u ≡ true

-- the test of subtypes answers true exactly if the bound is the second type
abbrev pub SubtypeIsByBound : Type 0
SubtypeIsByBound =
    (m : ValidationMode) (s t : Ty)
    → ((is_subtype m s t ≡ true) → lub m s t ≡ Some t)
    × (lub m s t ≡ Some t → is_subtype m s t ≡ true)
