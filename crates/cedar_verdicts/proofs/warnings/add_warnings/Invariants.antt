use Rattle.std.proofs.Common.{◌&&◌, not, take}
use Rattle.std.specs.BTreeMap.{keys}
use Rattle.std.specs.List.{list_any}
use Rattle.cedar_verdicts.specs.Found.{warns_of_impossible, is_unknown_error}
use Rattle.cedar_verdicts.specs.Warnings.{Gain}
use Rattle.cedar_verdicts.proofs.warnings.add_warnings.Given as goal

-- the warnings so far are added
abbrev pub invariant-loop-warning : goal.invariant-loop-warning
invariant-loop-warning l =
    Gain (list_any warns_of_impossible (take l.warning-index l.found.warnings.items)
    && not (list_any is_unknown_error (keys l.found.errors))) l.initial.causes.items l.causes.items
