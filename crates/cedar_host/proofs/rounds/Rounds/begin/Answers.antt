use Rattle.std.proofs.Common.{◌≤◌, map, refl, subst, arith}
use Rattle.cedar_types.specs.Names.{uid_of}
use Rattle.cedar_types.specs.Schemas.Declarations.{uids_of}
use Rattle.cedar_host.specs.Loading.{AddsNew}
use Rattle.cedar_host.proofs.HandedIn.{after_first}
use Rattle.cedar_host.proofs.rounds.Rounds.begin.Goals as goal

pub returns-clause-after : goal.returns-clause-after
returns-clause-after c =
    let start = map uid_of c.args.start.now in
    let some : 1 ≤ c.args.steps = omega (arith, c.if-steps-eq0.false) in
    let ids = uids_of c.add_new.new.ids in
    let wanted = map uid_of c.in_ok-wanted.wanted.items in
    after_first start c.args.steps _ some refl
    (subst (λ ks. AddsNew (map uid_of ks) start ids wanted) c.new-ids.ensures.empty
    c.in_ok-wanted.ensures.adds)

pub returns-clause-found : goal.returns-clause-found
returns-clause-found c =
    let adds = c.in_ok-wanted.ensures.adds in
    λ u i. adds.there u (adds.of_these u i)
