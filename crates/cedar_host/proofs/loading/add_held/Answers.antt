use Rattle.std.proofs.Common.{◌≡◌, ◌+◌, [], ◌++◌, ap, ◌∙◌, sym, subst, List, map, take}
use Rattle.std.specs.List.{flat_map}
use Rattle.std.proofs.lemmas.List.{flat_map_more}
use Rattle.cedar_types.specs.Names.{Uid, uid_of}
use Rattle.cedar_types.specs.Schemas.Declarations.{uids_of}
use Rattle.cedar_types.proofs.Schema.Places.{next_mapped}
use Rattle.cedar_host.specs.Loading.{AddsNew}
use Rattle.cedar_host.proofs.AddedIds.{then_more}
use Rattle.cedar_host.proofs.loading.add_held.Goals as goal

pub loop-holder-preserved : goal.loop-holder-preserved
loop-holder-preserved g c =
    let answered : Uid → List Uid = g.E.Entities.answered c.args.entities.now in
    let holders = c.args.holders.now in
    let i = c.loop-holder.holder-index in
    let holder = c.holder-item.result in
    let x = uid_of holder in
    let so_far = map uid_of (take i holders) in
    let old = uids_of c.loop-holder.ids in
    let new = uids_of c.add_new.new.ids in
    let found = map uid_of c.in_ok-more.more.items in
    let held : map uid_of c.deref.result.now ≡ answered x =
    ap (map uid_of) c.deref.ensures.value ∙ c.in_ok-held.ensures in
    let one_more : flat_map answered (map uid_of (take (i + 1) holders)) ≡ flat_map answered so_far ++ answered x =
    ap (flat_map answered) (next_mapped uid_of holders i holder c.loop-holder-test.true c.holder-item.is)
    ∙ sym (flat_map_more answered [] so_far x) in
    then_more _ _ old _ (answered x) new found c.loop-holder.invariant
    (subst (λ us. AddsNew old us new found) held c.in_ok-more.ensures.adds)
    _ _ one_more c.in_ok-append.ensures
