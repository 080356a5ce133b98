use Rattle.std.proofs.Common.{false}
use Rattle.cedar_verdicts.specs.Warnings.{Gain}
use Rattle.cedar_verdicts.proofs.warnings.add_marks.Given as goal

-- no text that may be read as another one says that the policy is impossible
abbrev pub invariant-loop-it : goal.invariant-loop-it
invariant-loop-it l = Gain false l.initial.causes.items l.causes.items
