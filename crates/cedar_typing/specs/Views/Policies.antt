-- Views of the findings so far in the check of a policy.
use Rattle.std.specs.Prelude.{◌≡◌, ◌↔◌, List, map, IsPermutation}
use Rattle.cedar_types.specs.Errors.{Finding, finding_of}
use Rattle.cedar_types.specs.Environments.RequestEnvs.{Env}
use Rattle.cedar_typing.specs.declared.typecheck.policy.Tally.{Tally}
use Rattle.cedar_typing.specs.Evaluation.Conformance.{IsOneOf}
use Rattle.cedar_typing.specs.PolicyCheck.{Verdict}
use Rattle.cedar_typing.specs.PolicyCheck.Outcome.{VerdictsOf, all_pass, all_irrelevant, all_errors}

-- the tally has the findings of these verdicts
pub record IsTally (t : Tally) (vs : List Verdict) : Type 0 where
  pub passes : t.all_pass ≡ all_pass vs
  pub irrelevant : t.all_irrelevant ≡ all_irrelevant vs
  pub errors : (f : Finding) → IsOneOf f (map finding_of t.errors.keys) ↔ IsOneOf f (all_errors vs)

-- the tally has the findings of verdicts of these environments
pub record TalliesEnvs (Checks : Env → Verdict → Type 0) (envs : List Env)
    (t : Tally) : Type 0 where
  pub listed : List Env
  pub verdicts : List Verdict
  pub in_some_order : IsPermutation listed envs
  pub checked : VerdictsOf Checks listed verdicts
  pub tallied : IsTally t verdicts
