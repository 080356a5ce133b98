use Rattle.std.proofs.Common.{◌≡◌, ◌-◌, ◌≤◌, List, [], map}
use Rattle.cedar_types.specs.Names.{uid_of}
use Rattle.cedar_host.specs.Rounds.{Round, AreAfter, HoldNoMore, left_in, wanted_in}
use Rattle.cedar_examples.proofs.in_rounds.ids_in_rounds.Given as goal

-- some rounds were done, and in these the store's entities held no more than was handed in
abbrev pub invariant-loop-round : goal.invariant-loop-round
invariant-loop-round g l =
    (done : List Round) × AreAfter (map uid_of l.start) l.steps done l.rounds
    × HoldNoMore (g.E.Entities.store l.entities) done × (left_in l.rounds ≡ l.steps - 1 - l._round)
    × (l.steps ≤ l._round → wanted_in l.rounds ≡ [])
