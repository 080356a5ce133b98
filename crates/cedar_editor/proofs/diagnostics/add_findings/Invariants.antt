use Rattle.std.proofs.Common.{◌≡◌, ◌++◌, map, take}
use Rattle.cedar_editor.specs.Diagnostics.{finding_marks, marks_of}
use Rattle.cedar_editor.proofs.diagnostics.add_findings.Given as goal

-- a diagnostic is added for each finding so far
abbrev pub invariant-loop-finding : goal.invariant-loop-finding
invariant-loop-finding l =
    map marks_of l.told.items
    ≡ map marks_of l.initial.told.items ++ map (finding_marks l.placed.start l.severity) (take l.finding-index l.findings)
