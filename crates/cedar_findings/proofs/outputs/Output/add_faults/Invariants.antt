use Rattle.cedar_findings.specs.Counts.{CountsSame}
use Rattle.cedar_findings.proofs.outputs.Output.add_faults.Given as goal

-- the faults so far are shown, and nothing is counted
abbrev pub invariant-loop-fault : goal.invariant-loop-fault
invariant-loop-fault l = CountsSame l.initial.self l.self
