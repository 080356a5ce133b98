use Rattle.std.proofs.Common.{◌∷◌, [], ◌++◌, map, sym, ap, ◌∙◌}
use Rattle.std.proofs.lemmas.List.{map_push}
use Rattle.cedar_types.specs.Names.{uid_of}
use Rattle.cedar_types.proofs.Schema.Places.{next_mapped}
use Rattle.cedar_examples.proofs.memory.copies.Goals as goal

pub loop-id-preserved : goal.loop-id-preserved
loop-id-preserved c =
    let ids = c.args.ids.now in
    let id = c.id-item.result in
    let same = ap (λ p. p.uid) c.in_ok-clone.ensures.cases in
    ap (map uid_of) c.in_ok-push.ensures.items
    ∙ (map_push uid_of c.loop-id.copies.items c.in_ok-clone.field-0
    ∙ ((λ j. c.loop-id.invariant j ++ same j ∷ [])
    ∙ sym (next_mapped uid_of ids c.loop-id.id-index id c.loop-id-test.true c.id-item.is)))
