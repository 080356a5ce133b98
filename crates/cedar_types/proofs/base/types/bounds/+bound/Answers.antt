use Rattle.std.proofs.Common.{ap, ◌∙◌, sym, subst, Some, option_map, ◌++◌, ◌∷◌}
use Rattle.cedar_types.specs.Names.{text_of}
use Rattle.cedar_types.specs.declared.base.types.Attributes.{out-Attributes}
use Rattle.cedar_types.specs.Types.{ty_of, attributes_of, entries_of, texts_of, join_attrs, attr, no_attrs, is_open_tag}
use Rattle.cedar_types.specs.Types.Bounds.{both_attrs, common_attrs}
use Rattle.cedar_types.proofs.Attributes.{attributes_are}
use Rattle.cedar_types.proofs.Attributes.Records.{both_starts, both_goes_on, common_starts, common_goes_on, common_drops, common_lacks}
use Rattle.cedar_types.proofs.Attributes.Records.{found_in, ascends, ascends_on, ascends_past, both_ends, none_left, common_ends, wide_here}
use Rattle.cedar_types.proofs.Attributes.Records.{size_is, count_is, below_next, Ascends}
use Rattle.cedar_types.proofs.base.types.bounds.+bound.Goals as goal

pub both_attributes-loop-key-init : goal.both_attributes-loop-key-init
both_attributes-loop-key-init t c =
    let left = c.into_iter-key-iterator.ensures.into_iter_gives ∙ c.iter-key-items.ensures.rest ∙ ap (λ m. m.entries) c.deref-2.ensures in
    let right = c.iter-right.ensures.rest ∙ ap (λ m. m.entries) c.deref.ensures in
    record {
      told =
          both_starts c.args.mode c.new-all.result.entries c.into_iter-key-iterator.result c.iter-right.result
          (out-Attributes c.args.xs.now).attrs.value.entries (out-Attributes c.args.ys.now).attrs.value.entries
          c.new-all.ensures.empty left right
          ∙ (λ i. both_attrs c.args.mode (sym (attributes_are c.args.xs.now) i) (sym (attributes_are c.args.ys.now) i));
      ascends =
          subst (λ es. Ascends (texts_of es ++ texts_of c.into_iter-key-iterator.result))
          (sym c.new-all.ensures.empty)
          (subst (λ es. Ascends (texts_of es))
          (sym (c.into_iter-key-iterator.ensures.into_iter_gives ∙ c.iter-key-items.ensures.rest))
          (ascends c.deref-2.result.now.entries c.iter-key-items.ensures.ordered));
    }

pub both_attributes-push_attribute-requires : goal.both_attributes-push_attribute-requires
both_attributes-push_attribute-requires t c =
    below_next (texts_of c.loop-key.all.entries) (text_of c.in-Some.key.now) (texts_of c.next.new.self)
    (subst (λ es. Ascends (texts_of c.loop-key.all.entries ++ texts_of es))
    c.in-Some.ensures.steps c.loop-key.invariant.ascends)

pub both_attributes-loop-key-preserved : goal.both_attributes-loop-key-preserved
both_attributes-loop-key-preserved t c = record {
  told =
      both_goes_on c.args.mode (entries_of c.loop-key.all.entries) _ (text_of c.in-Some.key.now)
      (text_of c.in-Some-next.other.now) (ty_of c.in-Some.x.now.attr_type) (ty_of c.in-Some-next.y.now.attr_type)
      (ty_of c.in-Some-2.ty) c.in-Some.x.now.is_required c.in-Some-next.y.now.is_required
      (entries_of c.next.new.self) (entries_of c.next-in-loop-key.new.self) (attributes_of c.args.xs.now)
      (attributes_of c.args.ys.now)
      (sym c.is_same_attribute.ensures ∙ c.if-not-is_same_attribute.false)
      (sym c.in_ok-ty.ensures ∙ ap (option_map ty_of) c.in-Some-2.is)
      c.in_ok-push_attribute.ensures.attributes
      (ap (λ es. option_map (join_attrs (entries_of c.loop-key.all.entries))
      (both_attrs c.args.mode (entries_of es)
      (entries_of ((c.in-Some-next.other.now, c.in-Some-next.y.now) ∷ c.next-in-loop-key.new.self))))
      (sym c.in-Some.ensures.steps)
      ∙ ap (λ es. option_map (join_attrs (entries_of c.loop-key.all.entries))
      (both_attrs c.args.mode (entries_of c.loop-key.key-iterator) (entries_of es)))
      (sym c.in-Some-next.ensures.steps)
      ∙ c.loop-key.invariant.told);
  ascends =
      ascends_on (texts_of c.loop-key.all.entries) _ (text_of c.in-Some.key.now) (texts_of c.next.new.self)
      c.in_ok-push_attribute.ensures.names
      (subst (λ es. Ascends (texts_of c.loop-key.all.entries ++ texts_of es))
      c.in-Some.ensures.steps c.loop-key.invariant.ascends);
}

pub both_attributes-returns : goal.both_attributes-returns
both_attributes-returns t c =
    both_ends c.args.mode (entries_of c.loop-key.all.entries) _ _ _ c.in-None.ensures.steps.0
    (none_left _ _ c.next-2.result c.if-is_some.ensures c.next-2.ensures.steps).0 c.loop-key.invariant.told

pub common_attributes-loop-key-init : goal.common_attributes-loop-key-init
common_attributes-loop-key-init t c =
    let left = c.into_iter-key-iterator.ensures.into_iter_gives ∙ c.iter-key-items.ensures.rest ∙ ap (λ m. m.entries) c.deref.ensures in
    record {
      told =
          common_starts c.args.mode c.new-all.result.entries c.into_iter-key-iterator.result
          (out-Attributes c.args.xs.now).attrs.value.entries _ c.new-all.ensures.empty left
          ∙ ap (λ xs. common_attrs c.args.mode xs (attributes_of c.args.ys.now)) (sym (attributes_are c.args.xs.now));
      ascends =
          subst (λ es. Ascends (texts_of es ++ texts_of c.into_iter-key-iterator.result))
          (sym c.new-all.ensures.empty)
          (subst (λ es. Ascends (texts_of es))
          (sym (c.into_iter-key-iterator.ensures.into_iter_gives ∙ c.iter-key-items.ensures.rest))
          (ascends c.deref.result.now.entries c.iter-key-items.ensures.ordered));
    }

pub common_attributes-push_attribute-requires : goal.common_attributes-push_attribute-requires
common_attributes-push_attribute-requires t c =
    below_next (texts_of c.loop-key.all.entries) (text_of c.in-Some.key.now) (texts_of c.next.new.self)
    (subst (λ es. Ascends (texts_of c.loop-key.all.entries ++ texts_of es))
    c.in-Some.ensures.steps c.loop-key.invariant.ascends)

pub common_attributes-loop-key-preserved-in_default-2 : goal.common_attributes-loop-key-preserved-in_default-2
common_attributes-loop-key-preserved-in_default-2 t c = record {
  told =
      common_drops c.args.mode (entries_of c.loop-key.all.entries) (text_of c.in-Some.key.now)
      (ty_of c.in-Some.x.now.attr_type) (ty_of c.in-Some-get.y.now.attr_type)
      c.in-Some.x.now.is_required c.in-Some-get.y.now.is_required (entries_of c.next.new.self)
      (attributes_of c.args.ys.now)
      (common_attrs c.args.mode (attributes_of c.args.xs.now) (attributes_of c.args.ys.now))
      (found_in c.in-Some.key.now c.args.ys.now _ c.deref-in-loop-key.ensures
      ∙ ap (option_map (λ a. (ty_of a.attr_type, a.is_required))) (sym c.in-Some-get.ensures.value))
      (sym c.in_ok-ty.ensures ∙ ap (option_map ty_of) c.in_default-2.is)
      (ap (λ es. join_attrs (entries_of c.loop-key.all.entries)
      (common_attrs c.args.mode (entries_of es) (attributes_of c.args.ys.now))) (sym c.in-Some.ensures.steps)
      ∙ c.loop-key.invariant.told);
  ascends =
      ascends_past (texts_of c.loop-key.all.entries) (text_of c.in-Some.key.now) (texts_of c.next.new.self)
      (subst (λ es. Ascends (texts_of c.loop-key.all.entries ++ texts_of es))
      c.in-Some.ensures.steps c.loop-key.invariant.ascends);
}

pub common_attributes-loop-key-preserved : goal.common_attributes-loop-key-preserved
common_attributes-loop-key-preserved t c = record {
  told =
      common_lacks c.args.mode (entries_of c.loop-key.all.entries) (text_of c.in-Some.key.now)
      (ty_of c.in-Some.x.now.attr_type) c.in-Some.x.now.is_required (entries_of c.next.new.self)
      (attributes_of c.args.ys.now)
      (common_attrs c.args.mode (attributes_of c.args.xs.now) (attributes_of c.args.ys.now))
      (found_in c.in-Some.key.now c.args.ys.now _ c.deref-in-loop-key.ensures
      ∙ ap (option_map (λ a. (ty_of a.attr_type, a.is_required))) (sym c.in_default.ensures.value))
      (ap (λ es. join_attrs (entries_of c.loop-key.all.entries)
      (common_attrs c.args.mode (entries_of es) (attributes_of c.args.ys.now))) (sym c.in-Some.ensures.steps)
      ∙ c.loop-key.invariant.told);
  ascends =
      ascends_past (texts_of c.loop-key.all.entries) (text_of c.in-Some.key.now) (texts_of c.next.new.self)
      (subst (λ es. Ascends (texts_of c.loop-key.all.entries ++ texts_of es))
      c.in-Some.ensures.steps c.loop-key.invariant.ascends);
}

pub common_attributes-returns : goal.common_attributes-returns
common_attributes-returns t c =
    common_ends c.args.mode _ (attributes_of c.args.ys.now) _ _ c.in-None.ensures.steps.0 c.loop-key.invariant.told

pub common_attributes-loop-key-preserved-in-Continue-branch-3 : goal.common_attributes-loop-key-preserved-in-Continue-branch-3
common_attributes-loop-key-preserved-in-Continue-branch-3 t c = record {
  told =
      common_goes_on c.args.mode (entries_of c.loop-key.all.entries) _ (text_of c.in-Some.key.now)
      (ty_of c.in-Some.x.now.attr_type) (ty_of c.in-Some-get.y.now.attr_type) (ty_of c.in-Some-2.ty)
      c.in-Some.x.now.is_required c.in-Some-get.y.now.is_required (entries_of c.next.new.self)
      (attributes_of c.args.ys.now)
      (common_attrs c.args.mode (attributes_of c.args.xs.now) (attributes_of c.args.ys.now))
      (found_in c.in-Some.key.now c.args.ys.now _ c.deref-in-loop-key.ensures
      ∙ ap (option_map (λ a. (ty_of a.attr_type, a.is_required))) (sym c.in-Some-get.ensures.value))
      (sym c.in_ok-ty.ensures ∙ ap (option_map ty_of) c.in-Some-2.is)
      (c.in_ok-push_attribute.ensures.attributes
      ∙ ap (λ r. join_attrs (entries_of c.loop-key.all.entries)
      (attr (text_of c.in-Some.key.now) (ty_of c.in-Some-2.ty) r no_attrs)) c.both.ensures)
      (ap (λ es. join_attrs (entries_of c.loop-key.all.entries)
      (common_attrs c.args.mode (entries_of es) (attributes_of c.args.ys.now))) (sym c.in-Some.ensures.steps)
      ∙ c.loop-key.invariant.told);
  ascends =
      ascends_on (texts_of c.loop-key.all.entries) _ (text_of c.in-Some.key.now) (texts_of c.next.new.self)
      c.in_ok-push_attribute.ensures.names
      (subst (λ es. Ascends (texts_of c.loop-key.all.entries ++ texts_of es))
      c.in-Some.ensures.steps c.loop-key.invariant.ascends);
}

pub records_bound-returns-in_ok-record_type : goal.records_bound-returns-in_ok-record_type
records_bound-returns-in_ok-record_type t c =
    ap Some c.in_ok-record_type.ensures
    ∙ wide_here c.args.mode (attributes_of c.args.xs.now) (attributes_of c.args.ys.now)
    (entries_of c.in_ok-all-2.all.entries) (is_open_tag c.args.o) (is_open_tag c.args.p)
    _ (both_attrs c.args.mode (attributes_of c.args.xs.now))
    (sym c.is_strict.ensures ∙ c.if-is_strict.false) _ _ _
    (c.len-else-is_strict-2.ensures.len ∙ sym (size_is c.in_ok-all-2.all.entries))
    (c.len.ensures.len ∙ count_is c.args.xs.now _ c.deref.ensures)
    (c.len-else-is_strict.ensures.len ∙ count_is c.args.ys.now _ c.deref-else-is_strict.ensures)
    c.wide_tag-tag.ensures
    c.in_ok-all-2.ensures
