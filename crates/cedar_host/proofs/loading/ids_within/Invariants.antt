use Rattle.std.proofs.Common.{◌≡◌, ℕ, suc, map}
use Rattle.cedar_types.specs.Names.{uid_of}
use Rattle.cedar_types.specs.Schemas.Declarations.{uids_of}
use Rattle.cedar_host.proofs.FoundInRounds.{IsRound}
use Rattle.cedar_host.proofs.loading.ids_within.Given as goal

-- the first ids make one step, and each round one more
abbrev pub invariant-loop-step : goal.invariant-loop-step
invariant-loop-step g l =
    (k : ℕ) × (l._step ≡ suc k)
    × IsRound (g.E.Entities.answered l.entities) (map uid_of l.start) k (uids_of l.ids)
    (map uid_of l.newest.items)
