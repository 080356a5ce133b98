-- Counts of policies, of faults, and of mistakes in data.
use Rattle.std.specs.Prelude.{◌≡◌, ℕ, ◌+◌, ◌-◌, ◌^◌, min, nat_lt, Bool, true, false, not, ◌||◌, cond, length, filter, Option, Some, None, Result, Ok, Err}
use Rattle.std.specs.declared.alloc.Global.{Global}
use Rattle.std.specs.declared.string.String.{String}
use Rattle.cedar_findings.specs.declared.codes.Code.{Code}
use Rattle.cedar_findings.specs.declared.codes.Code.TheVariants as Code
use Rattle.cedar_findings.specs.declared.data_findings.DataFinding.{DataFinding}
use Rattle.cedar_findings.specs.declared.data_findings.DataVerdict.{DataVerdict}
use Rattle.cedar_findings.specs.declared.findings.Requirement.{Requirement}
use Rattle.cedar_findings.specs.declared.findings.Requirement.TheVariants as Requirement
use Rattle.cedar_findings.specs.declared.findings.Verdict.{Verdict}
use Rattle.cedar_findings.specs.declared.outputs.Output.{Output}
use Rattle.cedar_findings.specs.declared.sources.Content.{Content}
use Rattle.cedar_findings.specs.declared.sources.Content.TheVariants as Content
use Rattle.cedar_findings.specs.declared.totals.DataTally.{DataTally}
use Rattle.cedar_findings.specs.declared.totals.Totals.{Totals}

-- a counter of 64 bits stays at its greatest number
abbrev pub capped : ℕ → ℕ
capped n = min n (2 ^ 64 - 1)

-- a counter, with one more if this holds
abbrev pub one_more_if : Bool → ℕ → ℕ
one_more_if true n = capped (n + 1)
one_more_if false n = n

abbrev pub is_fault_code : Code → Bool
is_fault_code Code.Fault = true
is_fault_code _ = false

-- a finding says that a text is no data
abbrev pub is_fault : DataFinding → Bool
is_fault f = is_fault_code f.code

abbrev pub is_mistake : DataFinding → Bool
is_mistake f = not (is_fault f)

-- two policies together need the greater number of steps; no number is enough if none is for one of
-- them, and a number that is not said adds nothing
abbrev pub joined : Requirement → Requirement → Requirement
joined Requirement.Unsaid r = r
joined Requirement.NoLevel r = Requirement.NoLevel
joined (Requirement.Level l) Requirement.Unsaid = Requirement.Level l
joined (Requirement.Level l) Requirement.NoLevel = Requirement.NoLevel
joined (Requirement.Level l) (Requirement.Level m) = Requirement.Level (cond (nat_lt l.level m.level) m l)

-- the totals, with a policy of this verdict
abbrev pub with_verdict : Verdict → Totals → Totals
with_verdict v t = record {
  policies = capped (t.policies + 1);
  accepted = one_more_if v.is_accepted t.accepted;
  refused = one_more_if (not v.is_accepted) t.refused;
  warnings = capped (t.warnings + v.warning_count);
  faults = t.faults;
  requirement = joined t.requirement v.requirement;
  «data» = t.data;
  lacks_schema = t.lacks_schema;
}

-- the totals, with so many policies that are only read
abbrev pub with_read : ℕ → Totals → Totals
with_read n t = record {
  policies = capped (t.policies + n);
  accepted = t.accepted;
  refused = t.refused;
  warnings = t.warnings;
  faults = t.faults;
  requirement = t.requirement;
  «data» = t.data;
  lacks_schema = t.lacks_schema;
}

-- the totals, with so many faults more
abbrev pub with_faults : ℕ → Totals → Totals
with_faults n t = record {
  policies = t.policies;
  accepted = t.accepted;
  refused = t.refused;
  warnings = t.warnings;
  faults = capped (t.faults + n);
  requirement = t.requirement;
  «data» = t.data;
  lacks_schema = t.lacks_schema;
}

-- the totals, with a fault more: there is no schema
abbrev pub with_missing_schema : Totals → Totals
with_missing_schema t = record {
  policies = t.policies;
  accepted = t.accepted;
  refused = t.refused;
  warnings = t.warnings;
  faults = capped (t.faults + 1);
  requirement = t.requirement;
  «data» = t.data;
  lacks_schema = true;
}

-- the tally, with data of this verdict
abbrev pub tally_with : DataVerdict → DataTally → DataTally
tally_with v d = record {
  is_asked = d.is_asked;
  is_refused = d.is_refused || not v.is_accepted;
  entities = capped (d.entities + v.entities);
  errors = capped (d.errors + length (filter is_mistake v.findings.items));
}

-- the totals, with data of this verdict: a finding that a text is no data is a fault, any other a mistake
abbrev pub with_data : DataVerdict → Totals → Totals
with_data v t = record {
  policies = t.policies;
  accepted = t.accepted;
  refused = t.refused;
  warnings = t.warnings;
  faults = capped (t.faults + length (filter is_fault v.findings.items));
  requirement = t.requirement;
  «data» = tally_with v t.data;
  lacks_schema = t.lacks_schema;
}

-- ---- counts of an output

-- an output counts what another one does
pub record CountsSame (old new : Output) : Type 0 where
  pub totals : new.totals ≡ old.totals
  pub changes : new.changes ≡ old.changes

-- an output counts so many faults more, and nothing else
pub record CountsFaults (n : ℕ) (old new : Output) : Type 0 where
  pub totals : new.totals ≡ with_faults n old.totals
  pub changes : new.changes ≡ old.changes

-- the text of a file, if all of it was read and is one
abbrev pub text_in : {E : Type 0} → Result Content E → Option (String Global)
text_in (Ok (Content.Text t)) = Some t
text_in (Ok (Content.Broken t f)) = None
text_in (Err e) = None
