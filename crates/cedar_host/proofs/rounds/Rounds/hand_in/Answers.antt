use Rattle.std.proofs.Common.{◌<◌, map, refl, arith}
use Rattle.cedar_types.specs.Names.{uid_of}
use Rattle.cedar_host.proofs.HandedIn.{after_last, after_next}
use Rattle.cedar_host.proofs.rounds.Rounds.hand_in.Goals as goal

pub returns-then-left-eq0-clause-after : goal.returns-then-left-eq0-clause-after
returns-then-left-eq0-clause-after c =
    λ start steps done before.
    after_last start steps done c.args.self _ (map uid_of c.args.held.now) before c.if-left-eq0.true
    refl refl

pub returns-clause-after : goal.returns-clause-after
returns-clause-after c =
    let more : 0 < c.args.self.left = omega (arith, c.if-left-eq0.false) in
    λ start steps done before.
    after_next start steps done c.args.self _ (map uid_of c.args.held.now) before more
    c.in_ok-wanted.ensures.adds refl

pub returns-clause-found : goal.returns-clause-found
returns-clause-found c =
    let adds = c.in_ok-wanted.ensures.adds in
    λ u i. adds.there u (adds.of_these u i)
