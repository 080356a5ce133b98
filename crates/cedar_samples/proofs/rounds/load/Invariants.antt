use Rattle.std.proofs.Common.{◌≡◌, ℕ, ◌-◌, ◌≤◌, []}
use Rattle.cedar_host.specs.Loaders.{IsLoaderOf, left_of, wanted_of}
use Rattle.cedar_samples.proofs.rounds.load.Given as goal

abbrev steps : ℕ
steps = 3

-- the loader is the request's, and wants nothing after the last round
abbrev pub invariant-loop-round : goal.invariant-loop-round
invariant-loop-round l =
    IsLoaderOf l.request steps l.loader × (left_of l.loader ≡ 2 - l.round)
    × (3 ≤ l.round → wanted_of l.loader ≡ [])
