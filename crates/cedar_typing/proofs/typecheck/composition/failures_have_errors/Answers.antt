use Rattle.cedar_typing.proofs.Silence.Checks.{silent_failure_is_cut, passing_is_derived}
use Rattle.cedar_typing.proofs.Silence.Induction.{failures_have_errors}
use Rattle.cedar_typing.proofs.Silence.Names.{condition_is_well_named}
use Rattle.cedar_typing.proofs.Silence.Policies.{passing_policy_is_derived}
use Rattle.cedar_typing.proofs.typecheck.composition.failures_have_errors.Goals as goal

pub returns : goal.returns
returns c = record {
  well_named = condition_is_well_named;
  failures = failures_have_errors;
  cut = silent_failure_is_cut;
  passing = passing_is_derived;
  policy = passing_policy_is_derived;
}
