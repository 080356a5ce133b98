-- Attributes that are added to a map of attributes.
use Rattle.std.proofs.Common.{◌≡◌, refl, ap, ◌∙◌, Bool, List, [], ◌∷◌}
use Rattle.std.specs.declared.cmp.Ordering.{Ordering}
use Rattle.std.specs.declared.cmp.Ordering.TheVariants.{Less, Equal, Greater}
use Rattle.std.specs.declared.rc.RcStr.{RcStr}
use Rattle.std.specs.declared.alloc.Global.{Global}
use Rattle.std.specs.Ordering.{match_ordering}
use Rattle.std.specs.BTreeMap.{insert_entry}
use Rattle.cedar_types.specs.declared.base.types.AttributeType.{AttributeType}
use Rattle.cedar_types.specs.Names.{text_of}
use Rattle.cedar_types.specs.Types.{Ty, ty_of, entries_of, attr}
use Rattle.cedar_types.specs.Expressions.Makers.{with_attr}
use Rattle.cedar_types.proofs.Attributes.Records.{key_cmp}

abbrev pub shown : AttributeType → Ty × Bool
shown v = (ty_of v.attr_type, v.is_required)

entries_match : (o : Ordering) (a b c : List (RcStr Global × AttributeType)) → entries_of (match_ordering o a b c)
    ≡ match_ordering o (entries_of a) (entries_of b) (entries_of c)
entries_match Less a b c = refl
entries_match Equal a b c = refl
entries_match Greater a b c = refl

pub entries_with : (es : List (RcStr Global × AttributeType)) (k : RcStr Global) (v : AttributeType)
    → entries_of (insert_entry key_cmp es k v) ≡ with_attr (text_of k) (shown v) (entries_of es)
entries_with [] k v = refl
entries_with (e ∷ es) k v =
    entries_match (key_cmp k e.0) ((k, v) ∷ e ∷ es) ((e.0, v) ∷ es) (e ∷ insert_entry key_cmp es k v)
    ∙ ap (λ r. match_ordering (key_cmp k e.0) (entries_of ((k, v) ∷ e ∷ es)) (entries_of ((e.0, v) ∷ es))
    (attr (text_of e.0) (ty_of e.1.attr_type) e.1.is_required r)) (entries_with es k v)
