use Rattle.std.proofs.Common.{[], ◌++◌, ap, ◌∙◌, sym, List, map, take}
use Rattle.std.specs.List.{flat_map}
use Rattle.std.proofs.lemmas.List.{flat_map_more}
use Rattle.cedar_types.specs.Names.{Uid, uid_of}
use Rattle.cedar_types.proofs.Schema.Places.{next_mapped}
use Rattle.cedar_examples.proofs.in_rounds.held_by.Goals as goal

pub loop-id-preserved : goal.loop-id-preserved
loop-id-preserved g c =
    let answered : Uid → List Uid = g.E.Entities.answered c.args.entities.now in
    let wanted = c.args.wanted.now in
    let i = c.loop-id.id-index in
    let id = c.id-item.result in
    let so_far = map uid_of (take i wanted) in
    c.in_ok-append.ensures
    ∙ ap (λ us. us ++ map uid_of c.in_ok-held.held.items) c.loop-id.invariant
    ∙ ap (λ us. flat_map answered so_far ++ us) c.in_ok-held.ensures
    ∙ flat_map_more answered [] so_far (uid_of id)
    ∙ ap (flat_map answered) (sym (next_mapped uid_of wanted i id c.loop-id-test.true c.id-item.is))
