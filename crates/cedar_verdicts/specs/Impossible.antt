-- Warnings that a policy is impossible.
use Rattle.std.specs.Prelude.{Bool, true, false}
use Rattle.std.specs.List.{list_any}
use Rattle.cedar_findings.specs.declared.codes.Code.{Code}
use Rattle.cedar_findings.specs.declared.codes.Code.TheVariants as Code
use Rattle.cedar_findings.specs.declared.findings.Finding.{Finding}
use Rattle.cedar_findings.specs.declared.findings.Verdict.{Verdict}

abbrev pub is_impossible_code : Code → Bool
is_impossible_code Code.Impossible = true
is_impossible_code _ = false

-- a finding calls the policy impossible
abbrev pub calls_impossible : Finding → Bool
calls_impossible f = is_impossible_code f.code

-- a warning calls the policy impossible
abbrev pub has_impossible : Verdict → Bool
has_impossible v = list_any calls_impossible v.warnings.items
