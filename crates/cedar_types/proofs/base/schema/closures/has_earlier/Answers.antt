use Rattle.std.proofs.Common.{◌∙◌, sym, take, map, Some}
use Rattle.std.specs.Cmp.Lexicographic.{pointwise}
use Rattle.cedar_types.proofs.Schema.Closures.{found_within, keys_same}
use Rattle.cedar_types.proofs.base.schema.closures.has_earlier.Goals as goal

pub returns-then-len : goal.returns-then-len
returns-then-len g c = λ h.
    let d = g.D.Declared in
    let found = d.plain c.in-Some-get_before.found.now in
    let above = d.plain c.args.above.now in
    (found_within (λ x. d.same (d.key c.in-Some.name.now) (d.called x))
    (take c.args.place (map d.plain c.args.table.now.declared.items)) found
    (sym c.in-Some-get_before.ensures)).passes
    (λ x. pointwise d.same (d.below (Some x)) (d.below (Some above)))
    ((λ i. pointwise d.same (sym c.descendants-others.ensures i) (sym c.descendants-names.ensures i))
    ∙ sym (keys_same d.key g.D.Name.PartialEq.eq d.same g.met.D.Declared.equal
    c.descendants-others.result.now.keys c.descendants-names.result.now.keys)
    ∙ sym c.eq.ensures ∙ h)
