-- Policies as they are shown, and the promise of a policy that is shown without an error.
use Rattle.std.specs.Prelude.{◌≡◌, ℕ, ◌+◌, Bool, true, false, Option, Some, None, List, [], ◌∷◌, length}
use Rattle.cedar_types.specs.Templates.{template_of}
use Rattle.cedar_typing.specs.Soundness.Policies.{Basis}
use Rattle.cedar_typechecker.specs.declared.survey.Survey.{Survey}
use Rattle.cedar_typechecker.specs.Surveys.{IsSurveyOf}
use Rattle.cedar_findings.specs.declared.faults.TextFault.{TextFault}
use Rattle.cedar_findings.specs.declared.findings.Finding.{Finding}
use Rattle.cedar_findings.specs.declared.findings.Verdict.{Verdict}
use Rattle.cedar_verdicts.specs.Verdicts.{finds_nothing, IsPromised, IsRightVerdict, IsWholeVerdict}
use Rattle.cedar_editor.specs.declared.checks.CheckedPolicy.{CheckedPolicy}

-- ---- errors that are shown

-- a list of findings has at least one
abbrev pub has_any : List Finding → Bool
has_any [] = false
has_any (f ∷ fs) = true

-- a verdict is there, and lists an error
abbrev pub verdict_has_error : Option Verdict → Bool
verdict_has_error None = false
verdict_has_error (Some v) = has_any v.errors.items

-- an error of the policy is shown: its fault, or an error of its verdict
abbrev pub shows_error : Option TextFault → Option Verdict → Bool
shows_error (Some f) v = true
shows_error None v = verdict_has_error v

-- an error of a checked policy is shown
abbrev pub has_shown_error : CheckedPolicy → Bool
has_shown_error p = shows_error p.fault p.verdict

-- ---- findings that are shown

abbrev pub count_of_fault : Option TextFault → ℕ
count_of_fault None = 0
count_of_fault (Some f) = 1

abbrev pub count_of_verdict : Option Verdict → ℕ
count_of_verdict None = 0
count_of_verdict (Some v) = length v.errors.items + length v.warnings.items

-- the fault, the errors and the warnings of a checked policy
abbrev pub finding_count : CheckedPolicy → ℕ
finding_count p = count_of_fault p.fault + count_of_verdict p.verdict

-- ---- right verdicts

-- a policy without a fault has a verdict, which is right and whole; nothing is claimed of a policy with a fault
abbrev pub is_rightly_said_of : Basis → Option ℕ → CheckedPolicy → Option TextFault → Option Verdict → Type 0
is_rightly_said_of b level p (Some f) v = Unit {0}
is_rightly_said_of b level p None None = ⊥
is_rightly_said_of b level p None (Some v) =
    IsRightVerdict b level (template_of p.template) v × IsWholeVerdict b level (template_of p.template) false v

-- the verdict on a checked policy is right and whole, unless the policy has a fault
abbrev pub IsRightlySaid : Basis → Option ℕ → CheckedPolicy → Type 0
IsRightlySaid b level p = is_rightly_said_of b level p p.fault p.verdict

-- a policy that is shown without an error has no finding, so validation promises of it all that it promises of an accepted
-- policy
pub record IsSafeAsShown (b : Basis) (level : Option ℕ) (p : CheckedPolicy) : Type 0 where
  pub promised : has_shown_error p ≡ false → IsPromised b level (template_of p.template) true
  pub accepted : has_shown_error p ≡ false
      → (s : Survey) × IsSurveyOf b (template_of p.template) s × (finds_nothing b level (template_of p.template) s ≡ true)
