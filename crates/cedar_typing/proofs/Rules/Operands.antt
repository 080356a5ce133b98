-- Every record is accepted where a record or an entity is required.
use Rattle.std.proofs.Common.{◌≡◌, refl, ap, sym, ◌∙◌, Bool, true, false}
use Rattle.cedar_types.specs.declared.base.types.ValidationMode.TheVariants.{Permissive}
use Rattle.cedar_types.specs.declared.base.types.CedarType.{CedarType, fold-roll-CedarType}
use Rattle.cedar_types.specs.declared.base.types.CedarType.TheOpen as layer
use Rattle.cedar_types.specs.declared.base.types.CedarType.TheVariants.{Record, rolls-Record}
use Rattle.cedar_types.specs.declared.base.types.Attributes.{Attributes}
use Rattle.cedar_types.specs.declared.base.types.OpenTag.{OpenTag}
use Rattle.cedar_types.specs.Types.{Ty, TRecord, Attrs, no_attrs, attr, is_open_tag, ty_step, attribute_step, attributes_step, ty_of}
use Rattle.cedar_types.specs.Types.{attributes_of}
use Rattle.cedar_types.specs.Types.Bounds.{common_attrs}
use Rattle.cedar_typing.specs.TypeTests.{accepts, object_types}

none_common : (xs : Attrs) → common_attrs Permissive xs no_attrs ≡ no_attrs
none_common no_attrs = refl
none_common (attr k t r xs) = none_common xs

pub record_accepted : (xs : Attrs) (o : Bool) → accepts object_types (TRecord xs o) ≡ true
record_accepted no_attrs true = refl
record_accepted no_attrs false = refl
record_accepted (attr k t r xs) true = rw (none_common xs) refl
record_accepted (attr k t r xs) false = rw (none_common xs) refl

record_is : (a : Attributes) (o : OpenTag) → ty_of (Record a o) ≡ TRecord (attributes_of a) (is_open_tag o)
record_is a o =
    ap ty_of (sym (rolls-Record a o))
    ∙ fold-roll-CedarType Ty (Ty × Bool) Attrs ty_step attribute_step attributes_step (layer.Record a o)

-- a record of the program is accepted too
pub record_is_object : (t : CedarType) (a : Attributes) (o : OpenTag) → t ≡ Record a o → true ≡ accepts object_types (ty_of t)
record_is_object t a o h =
    sym (ap (λ t. accepts object_types (ty_of t)) h ∙ ap (accepts object_types) (record_is a o)
    ∙ record_accepted (attributes_of a) (is_open_tag o))
