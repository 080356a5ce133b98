use Rattle.std.proofs.Common.{ap, sym, ◌∙◌, map}
use Rattle.cedar_types.specs.Types.{entries_of}
use Rattle.cedar_types.specs.Expressions.Makers.{with_attr, with_attrs}
use Rattle.cedar_types.proofs.Attributes.Listed.{shown, entries_with}
use Rattle.cedar_types.proofs.base.types.Attributes.from_list.Goals as goal

pub loop-key-preserved : goal.loop-key-preserved
loop-key-preserved c =
    let rest = map (λ e. (e.0.now, shown e.1)) c.next.new.self.rest.items in
    let old = c.loop-key.attrs.entries in
    ap (λ es. with_attrs rest (entries_of es)) c.in_ok-insert.ensures.entries
    ∙ ap (with_attrs rest) (entries_with old c.in_ok-from_str.field-0 c.in-Some.attribute)
    ∙ ap (λ k. with_attrs rest (with_attr k (shown c.in-Some.attribute) (entries_of old))) c.in_ok-from_str.ensures.ok
    ∙ ap (λ es. with_attrs (map (λ e. (e.0.now, shown e.1)) es) (entries_of old)) (sym c.in-Some.ensures.steps.0)
    ∙ c.loop-key.invariant
