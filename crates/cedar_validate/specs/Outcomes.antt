-- Outcomes of a call, by the counts of its output, and its exit statuses.
use Rattle.std.specs.Prelude.{◌≡◌, ℕ, Bool, true, false, ◌&&◌, ◌||◌, nat_lt}
use Rattle.cedar_findings.specs.declared.arguments.Arguments.{Arguments}
use Rattle.cedar_findings.specs.declared.arguments.Task.{Task}
use Rattle.cedar_findings.specs.declared.arguments.Task.TheVariants as Task
use Rattle.cedar_findings.specs.declared.outputs.Output.{Output}
use Rattle.cedar_findings.specs.declared.statuses.Statuses.{Statuses}
use Rattle.cedar_findings.specs.declared.statuses.Statuses.TheVariants as Statuses
use Rattle.cedar_validate.specs.declared.outcomes.Outcome.{Outcome}
use Rattle.cedar_validate.specs.declared.outcomes.Outcome.TheVariants as Outcome

abbrev pub is_comparison : Task → Bool
is_comparison Task.Validation = false
is_comparison Task.Comparison = true
is_comparison Task.Parsing = false

-- a policy or data is refused; or a warning is denied; or a policy is worse off
abbrev pub counts_a_refusal : Arguments → Output → Bool
counts_a_refusal a o =
    nat_lt 0 o.totals.refused
    || (o.totals.data.is_refused
    || ((a.denies_warnings && nat_lt 0 o.totals.warnings)
    || (is_comparison a.task && nat_lt 0 o.changes.worse)))

abbrev pub outcome_of : Bool → Bool → Outcome
outcome_of true is_refused = Outcome.Unread
outcome_of false true = Outcome.Refused
outcome_of false false = Outcome.Accepted

-- a fault outweighs a refusal
abbrev pub outcome_by : Arguments → Output → Outcome
outcome_by a o = outcome_of (nat_lt 0 o.totals.faults) (counts_a_refusal a o)

-- the program's own exit statuses, and those of Cedar's
abbrev pub status_by : Statuses → Outcome → ℕ
status_by Statuses.Own Outcome.Accepted = 0
status_by Statuses.Own Outcome.Refused = 1
status_by Statuses.Own Outcome.Unread = 2
status_by Statuses.Cedar Outcome.Accepted = 0
status_by Statuses.Cedar Outcome.Refused = 3
status_by Statuses.Cedar Outcome.Unread = 1

-- no fault, no refused policy and no refused data is counted
pub record CountsNoRefusal (o : Output) : Type 0 where
  pub read : o.totals.faults ≡ 0
  pub accepted : o.totals.refused ≡ 0
  pub conforming : o.totals.data.is_refused ≡ false
