use Rattle.std.proofs.Common.{◌≡◌, ◌++◌, length}
use Rattle.std.specs.List.{filter}
use Rattle.std.specs.Vec.Iter.{into_iter_items, into_iter_len}
use Rattle.cedar_samples.specs.Decisions.{is_accepted, is_refused}
use Rattle.cedar_samples.proofs.gate.decide.Given as goal

-- among the reports so far, the accepted ones are admitted, and the others refused
abbrev pub invariant-loop-report : goal.invariant-loop-report
invariant-loop-report g l =
    (l.admitted.items ≡ filter is_accepted l.yielded)
    × (l.refused.items ≡ filter is_refused l.yielded)
    × (l.yielded ++ into_iter_items l.report-iterator ≡ into_iter_items l.initial.report-iterator)
    × (into_iter_len l.report-iterator ≡ length (into_iter_items l.report-iterator))
