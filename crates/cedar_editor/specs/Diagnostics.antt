-- Diagnostics, and the faults and findings of policies that they tell.
use Rattle.std.specs.Prelude.{◌≡◌, ℕ, ◌+◌, ◌==◌, Bool, ◌||◌, if◌then◌else◌, Option, Some, None, List, [], ◌∷◌, ◌++◌, flat_map, length, map, min, string_bytes, take, drop}
use Rattle.std.specs.List.{position_or_len, range_with_len}
use Rattle.cedar_types.specs.declared.base.location.Loc.{Loc}
use Rattle.cedar_findings.specs.declared.codes.Code.{Code}
use Rattle.cedar_findings.specs.declared.faults.TextFault.{TextFault}
use Rattle.cedar_findings.specs.declared.findings.Finding.{Finding}
use Rattle.cedar_findings.specs.declared.findings.Severity.{Severity}
use Rattle.cedar_findings.specs.declared.findings.Verdict.{Verdict}
use Rattle.cedar_editor.specs.declared.diagnostics.Diagnostic.{Diagnostic}
use Rattle.cedar_editor.specs.declared.documents.PlacedPolicy.{PlacedPolicy}
use Rattle.cedar_editor.specs.Ids.{has_earlier_id}

-- the marks of a diagnostic: its place, its severity and its code
pub record Marks : Type 0 where
  pub place : Loc
  pub severity : Severity
  pub code : Code

abbrev pub marks_of : Diagnostic → Marks
marks_of d = record { place = d.place; severity = d.severity; code = d.code }

-- a place of the text of a policy that begins at a byte of a document, in the document; no place is beyond 2^64 - 1
abbrev pub place_in : ℕ → ℕ → ℕ → Loc
place_in begin start end = record { start = min (begin + start) 18446744073709551615; end = min (begin + end) 18446744073709551615 }

-- a fault is an error at its place
abbrev pub fault_marks : ℕ → TextFault → Marks
fault_marks begin f = record { place = place_in begin f.place.start f.place.end; severity = Severity.Error; code = Code.Fault }

-- a finding has its place and its code
abbrev pub finding_marks : ℕ → Severity → Finding → Marks
finding_marks begin severity f = record { place = place_in begin f.start f.end; severity = severity; code = f.code }

-- the fault of a policy, if it has one
abbrev pub marks_of_fault : ℕ → Option TextFault → List Marks
marks_of_fault begin None = []
marks_of_fault begin (Some f) = fault_marks begin f ∷ []

-- the errors of a verdict, and behind them its warnings
abbrev pub marks_of_verdict : ℕ → Option Verdict → List Marks
marks_of_verdict begin None = []
marks_of_verdict begin (Some v) =
    map (finding_marks begin Severity.Error) v.errors.items ++ map (finding_marks begin Severity.Warning) v.warnings.items

-- the fault of a placed policy, and behind it the findings of its verdict
abbrev pub marks_of_policy : PlacedPolicy → List Marks
marks_of_policy p = marks_of_fault p.start p.policy.value.fault ++ marks_of_verdict p.start p.policy.value.verdict

-- a byte ends a line
abbrev pub ends_line : ℕ → Bool
ends_line byte = byte == 10 || byte == 13

-- that a policy has the id of another one is an error at its first line
abbrev pub same_id_marks : PlacedPolicy → Marks
same_id_marks p =
    record {
      place = place_in p.start 0 (position_or_len ends_line (string_bytes p.policy.value.text));
      severity = Severity.Error;
      code = Code.SameId;
    }

-- the policy with this number, if it has the id of one before it
abbrev pub marks_if_repeated : List PlacedPolicy → ℕ → List Marks
marks_if_repeated ps k = if has_earlier_id ps k then take 1 (drop k (map same_id_marks ps)) else []

-- each policy that has the id of one before it
abbrev pub marks_of_same_ids : List PlacedPolicy → List Marks
marks_of_same_ids ps = flat_map (marks_if_repeated ps) (range_with_len 0 (length ps))

-- a document's diagnostics are those of the faults and findings of its policies, in the order of the policies, and behind them
-- one for each policy that has the id of one before it
abbrev pub AreDiagnosticsOf : List PlacedPolicy → List Diagnostic → Type 0
AreDiagnosticsOf ps ds = map marks_of ds ≡ flat_map marks_of_policy ps ++ marks_of_same_ids ps
