use Rattle.std.proofs.Common.{◌≡◌, ℕ, ◌+◌, ◌-◌, ◌≤◌, arith}
use Rattle.cedar_host.specs.Loaders.{left_of}
use Rattle.cedar_samples.proofs.rounds.load.Goals as goal

pub loop-round-init : goal.loop-round-init
loop-round-init c =
    let begun = c.in_ok-loader.ensures in
    (begun.begun, omega (arith, begun.left), λ none. begun.none (omega arith))

-- no round is left after the last one
none_left : (left i : ℕ) → left ≡ 2 - i → 3 ≤ i + 1 → left ≡ 0
none_left left i e le = omega arith

pub loop-round-preserved : goal.loop-round-preserved
loop-round-preserved c =
    let before = c.loop-round.invariant in
    let next = c.in_ok-loader-2.ensures in (
      next.goes_on c.args.request.now 3 before.0,
      omega (arith, before.1, next.left),
      λ le. next.ends (none_left (left_of c.loop-round.loader) c.loop-round.round before.1 le),
    )

pub returns : goal.returns
returns c =
    let before = c.loop-round.invariant in
    let over : 3 ≤ c.loop-round.round = omega (arith, c.loop-round-test.false) in
    c.finish.ensures.slices (before.2 over) c.args.request.now 3 before.0
