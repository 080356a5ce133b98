-- The attributes of a record, by the entries of its map.
use Rattle.std.proofs.Common.{◌≡◌, refl, sym, ap, ◌∙◌, Bool, List, [], ◌∷◌, map}
use Rattle.std.specs.declared.alloc.Global.{Global}
use Rattle.std.specs.declared.rc.RcStr.{RcStr}
use Rattle.cedar_types.specs.declared.base.types.AttributeType.{AttributeType, fold_out-AttributeType}
use Rattle.cedar_types.specs.declared.base.types.Attributes.{Attributes, out-Attributes, roll-Attributes, fold_out-Attributes}
use Rattle.cedar_types.specs.declared.base.types.Attributes.{fold-roll-Attributes}
use Rattle.std.specs.declared.rc.Rc.{Rc}
use Rattle.std.specs.BTreeMap.{BTreeMap}
use Rattle.cedar_types.specs.declared.base.types.OpenTag.{OpenTag}
use Rattle.cedar_types.specs.declared.base.types.CedarType.{fold-roll-CedarType}
use Rattle.cedar_types.specs.declared.base.types.CedarType.TheOpen as layer
use Rattle.cedar_types.specs.declared.base.types.CedarType.TheVariants.{Record, rolls-Record}
use Rattle.cedar_types.specs.Names.{text_of}
use Rattle.cedar_types.specs.Types.{TRecord, is_open_tag, Ty, Attrs, attr, ty_step, attribute_step, attributes_step, ty_of, attribute_of}
use Rattle.cedar_types.specs.Types.{attributes_of, attrs_of, entries_of}
pub mod Entries
pub mod Records
pub mod FindAttrs
pub mod Listed

on_values : (es : List (RcStr Global × AttributeType)) → attrs_of (map (λ e. (e.0, attribute_of e.1)) es) ≡ entries_of es
on_values [] = refl
on_values (e ∷ es) =
    ap (λ a. attr (text_of e.0) a.0 a.1 (attrs_of (map (λ e. (e.0, attribute_of e.1)) es)))
    (fold_out-AttributeType Ty (Ty × Bool) Attrs ty_step attribute_step attributes_step e.1)
    ∙ ap (attr (text_of e.0) (ty_of e.1.attr_type) e.1.is_required) (on_values es)

-- The plain attributes of a record are the entries of its map
pub attributes_are : (a : Attributes) → attributes_of a ≡ entries_of (out-Attributes a).attrs.value.entries
attributes_are a =
    fold_out-Attributes Ty (Ty × Bool) Attrs ty_step attribute_step attributes_step a
    ∙ on_values (out-Attributes a).attrs.value.entries

-- The plain attributes of attributes made from a map are the entries of that map
pub attributes_made : (m : Rc (BTreeMap (RcStr Global) AttributeType) Global)
    → attributes_of (roll-Attributes (record { attrs = m })) ≡ entries_of m.value.entries
attributes_made m =
    fold-roll-Attributes Ty (Ty × Bool) Attrs ty_step attribute_step attributes_step (record { attrs = m })
    ∙ on_values m.value.entries

pub record_is : (a : Attributes) (o : OpenTag) → ty_of (Record a o) ≡ TRecord (attributes_of a) (is_open_tag o)
record_is a o =
    ap ty_of (sym (rolls-Record a o))
    ∙ fold-roll-CedarType Ty (Ty × Bool) Attrs ty_step attribute_step attributes_step (layer.Record a o)
