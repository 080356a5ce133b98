use Rattle.std.proofs.Common.{◌≡◌, [], ◌∷◌, ◌++◌, Some, true, false, refl, sym, ap, ◌∙◌, subst, append_assoc, append-nil, option_map}
use Rattle.std.specs.List.{AllByRecursion}
use Rattle.std.specs.List.Sorted.{IsStrictlySortedBy}
use Rattle.std.specs.Map.{keys_of}
use Rattle.std.specs.declared.cmp.Ordering.TheVariants.{Less}
use Rattle.cedar_types.specs.Names.{text_of, text_cmp}
use Rattle.cedar_types.specs.Types.{ty_of, no_attrs, attr, join_attrs, entries_of, TRecord}
use Rattle.cedar_types.proofs.Attributes.Records.{key_cmp, pushed_attrs}
use Rattle.cedar_typing.specs.Capabilities.{no_caps}
use Rattle.cedar_typing.specs.Eager.{gives, types_found}
use Rattle.cedar_typing.specs.Rules.Records.{record_of_types}
use Rattle.cedar_typing.specs.Rules.Sets.{all_types}
use Rattle.cedar_typing.specs.Views.{keys_in, trees_in}
use Rattle.cedar_typing.proofs.Rules.Records.{TypedField, attrs_typed, goes_last, key_is_last, keys_with_last, one_more_attr}
use Rattle.cedar_typing.proofs.Rules.Records.{typed_fields_decide, untyped_field_decides}
use Rattle.cedar_typing.proofs.Views.Typed.{annotation_is}
use Rattle.cedar_typing.proofs.typecheck.rules.records.record_type.Goals as goal

pub returns-in_default : goal.returns-in_default
returns-in_default c env l =
    let done = c.loop-key.invariant.0 in
    let e : TypedField = (c.in-Some.key.now, c.in-Some.value.now) in
    let left = c.next.new.self in
    let all : c.args.fields.now.entries ≡ done ++ e ∷ left = c.loop-key.invariant.1 ∙ ap (λ es. done ++ es) c.in-Some.ensures.steps in
    ap (λ es. record_of_types env l (keys_in es) (all_types (types_found (trees_in es)))) all
    ∙ untyped_field_decides env l done e left (annotation_is e.1 ∙ ap (option_map ty_of) c.in_default.is)

pub loop-key-preserved : goal.loop-key-preserved
loop-key-preserved c =
    let l = c.loop-key in
    let done = l.invariant.0 in
    let e : TypedField = (c.in-Some.key.now, c.in-Some.value.now) in
    let left = c.next.new.self in
    let all : c.args.fields.now.entries ≡ done ++ e ∷ left = l.invariant.1 ∙ ap (λ es. done ++ es) c.in-Some.ensures.steps in
    let named : text_of c.in_ok-clone-2.field-0 ≡ text_of e.0 = c.in_ok-clone-2.ensures.cases in
    let above : AllByRecursion (λ k. text_cmp k (text_of c.in_ok-clone-2.field-0) ≡ Less) (keys_in l.attrs.entries) =
    key_is_last l.attrs.entries done e left c.in_ok-clone-2.field-0 l.invariant.2 named
    (subst (λ es. IsStrictlySortedBy key_cmp (keys_of es)) all c.iter-key-items.ensures.ordered) in
    let cloned = c.in_ok-clone.ensures.cases in
    let inserted = c.in_ok-insert.ensures.entries in (
      done ++ e ∷ [],
      all ∙ sym (append_assoc done (e ∷ []) left),
      ap keys_in (inserted ∙ goes_last l.attrs.entries c.in_ok-clone-2.field-0 _ above)
          ∙ keys_with_last l.attrs.entries done e c.in_ok-clone-2.field-0 _ l.invariant.2 named,
      one_more_attr done e (ty_of c.in-Some-annotation.ty) (annotation_is e.1 ∙ ap (option_map ty_of) c.in-Some-annotation.is)
          ∙ ap (option_map (λ xs. join_attrs xs (attr (text_of e.0) (ty_of c.in-Some-annotation.ty) true no_attrs))) l.invariant.3
          ∙ (λ i. Some (join_attrs (entries_of l.attrs.entries) (attr (sym named i) (sym cloned i) true no_attrs)))
          ∙ ap Some (sym (pushed_attrs l.attrs.entries c.in_ok-clone-2.field-0 _ _ refl above) ∙ sym (ap entries_of inserted)),
    )

pub returns : goal.returns
returns c env place =
    let l = c.loop-key in
    let done = l.invariant.0 in
    let all : c.args.fields.now.entries ≡ done = l.invariant.1 ∙ ap (λ es. done ++ es) c.in-None.ensures.steps.0 ∙ append-nil done in
    typed_fields_decide env place c.args.fields.now.entries (entries_of l.attrs.entries)
    c.iter-key-items.ensures.ordered (ap attrs_typed all ∙ l.invariant.3)
    ∙ ap (λ t. gives t no_caps) (sym (c.record_with_attributes-ty.ensures ∙ ap (λ xs. TRecord xs false) c.in_ok-attributes.ensures))
