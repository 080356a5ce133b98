use Rattle.std.proofs.Common.{◌≡◌, ◌+◌, ◌≤◌, suc, List, [], map, refl, sym, ap, ◌∙◌, subst, arith}
use Rattle.std.specs.List.{flat_map}
use Rattle.std.proofs.lemmas.List.{nil_from_length}
use borrow.Author.Tests.{eqb-true}
use Rattle.cedar_types.specs.Names.{Uid, uid_of}
use Rattle.cedar_types.specs.Schemas.Declarations.{uids_of}
use Rattle.cedar_host.specs.Loading.{AddsNew}
use Rattle.cedar_host.proofs.FoundInRounds.{IsRound, first_round, next_round, same_at_none, same_after, same_at_end}
use Rattle.cedar_host.proofs.LoadedSlices.{loads_slices}
use Rattle.cedar_host.proofs.loading.ids_within.Goals as goal

pub loop-step-init : goal.loop-step-init
loop-step-init g c =
    let start = map uid_of c.args.start.now in
    let ids = uids_of c.add_new.new.ids in
    let newest = map uid_of c.in_ok-newest.newest.items in (
      0,
      refl,
      first_round (g.E.Entities.answered c.args.entities.now) start ids newest
          (subst (λ ks. AddsNew (map uid_of ks) start ids newest) c.new-ids.ensures.empty
          c.in_ok-newest.ensures.adds),
    )

pub loop-step-preserved : goal.loop-step-preserved
loop-step-preserved g c =
    let answered : Uid → List Uid = g.E.Entities.answered c.args.entities.now in
    let start = map uid_of c.args.start.now in
    let before = c.loop-step.invariant in
    let k = before.0 in
    let old = uids_of c.loop-step.ids in
    let ids = uids_of c.add_held.new.ids in
    let last = map uid_of c.loop-step.newest.items in
    let newest = map uid_of c.in_ok-newest-2.newest.items in
    let more : c.loop-step._step + 1 ≡ suc (suc k) = omega (arith, before.1) in (
      suc k,
      more,
      next_round answered start k old last ids newest before.2
          (subst (λ ks. AddsNew old (flat_map answered (map uid_of ks)) ids newest) c.deref.ensures.value
          c.in_ok-newest-2.ensures),
    )

pub returns-then-steps-eq0 : goal.returns-then-steps-eq0
returns-then-steps-eq0 g c =
    let answered : Uid → List Uid = g.E.Entities.answered c.args.entities.now in
    let start = map uid_of c.args.start.now in
    let n = c.args.steps in
    let ids = uids_of c.new-ids.result in
    let none = ap (map uid_of) c.new-ids.ensures.empty in
    let exact = same_at_none answered start n ids c.if-steps-eq0.true none in
    let store = g.E.Entities.store c.args.entities.now in
    let complete = g.met.E.Entities.complete c.args.entities.now in
    record { exact = exact; slices = loads_slices answered store complete start n ids exact }

pub returns-then-is_empty : goal.returns-then-is_empty
returns-then-is_empty g c =
    let answered : Uid → List Uid = g.E.Entities.answered c.args.entities.now in
    let start = map uid_of c.args.start.now in
    let before = c.loop-step.invariant in
    let n = c.args.steps in
    let ids = uids_of c.loop-step.ids in
    let newest = c.loop-step.newest in
    let none : newest.items ≡ [] =
    nil_from_length newest.items
    (sym newest.ok.0 ∙ eqb-true newest.len 0 (sym c.if-is_empty.ensures)) in
    let round = subst (λ xs. IsRound answered start before.0 ids (map uid_of xs)) none before.2 in
    let further : suc before.0 ≤ n = omega (arith, before.1) in
    let exact = same_at_end answered start before.0 ids round n further in
    let store = g.E.Entities.store c.args.entities.now in
    let complete = g.met.E.Entities.complete c.args.entities.now in
    record { exact = exact; slices = loads_slices answered store complete start n ids exact }

pub returns : goal.returns
returns g c =
    let answered : Uid → List Uid = g.E.Entities.answered c.args.entities.now in
    let start = map uid_of c.args.start.now in
    let before = c.loop-step.invariant in
    let n = c.args.steps in
    let ids = uids_of c.loop-step.ids in
    let last : n ≡ suc before.0 = omega (arith, before.1) in
    let newest = map uid_of c.loop-step.newest.items in
    let exact = same_after answered start before.0 n ids newest before.2 last in
    let store = g.E.Entities.store c.args.entities.now in
    let complete = g.met.E.Entities.complete c.args.entities.now in
    record { exact = exact; slices = loads_slices answered store complete start n ids exact }
