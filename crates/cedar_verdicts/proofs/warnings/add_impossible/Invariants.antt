use Rattle.std.proofs.Common.{true}
use Rattle.cedar_verdicts.specs.Warnings.{Gain}
use Rattle.cedar_verdicts.proofs.warnings.add_impossible.Given as goal

-- the first part says so already
abbrev pub invariant-loop-part : goal.invariant-loop-part
invariant-loop-part l = Gain true l.fn.causes.items l.causes.items
