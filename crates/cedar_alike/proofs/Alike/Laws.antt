-- Environments that agree on what an expression reads have one answer: the law, from the induction.
use Rattle.std.proofs.Common.{◌≡◌, ℕ, sym}
use Rattle.cedar_types.specs.Environments.RequestEnvs.{Env}
use Rattle.cedar_typing.specs.Capabilities.{Caps, no_caps}
use Rattle.cedar_typing.specs.Composition.{in_env}
use Rattle.cedar_typing.specs.Infer.{unless_too_deep, infer, infer_within}
use Rattle.cedar_typing.specs.Setting.{Setting}
use Rattle.cedar_typing.specs.TypedExpr.{Source}
use Rattle.cedar_alike.specs.TypedOnce.{IsTypedOnce, AgreementIsEnough}
use Rattle.cedar_alike.proofs.Alike.Induction.{same_expression}
use Rattle.cedar_alike.proofs.Alike.Judgments.{goes_over, typed_alike, expression_over, condition_over, copy_over}

-- an expression that inference within the limit types alike is typed once
pub once_if_inferred : (s : Setting) (r r' : Env) (e : Source)
    → ((prior : Caps) (k : ℕ) → infer_within (in_env s r) e prior k ≡ infer_within (in_env s r') e prior k)
    → IsTypedOnce s r r' e
once_if_inferred s r r' e alike =
    let s1 = in_env s r in
    let s2 = in_env s r' in
    let same : (prior : Caps) (k : ℕ) → infer s1 e prior k ≡ infer s2 e prior k =
    λ prior k i es. unless_too_deep k es (alike prior k i es) in
    let to = λ (prior : Caps) (k : ℕ). goes_over s1 s2 e prior k (same prior k) in
    let from = λ (prior : Caps) (k : ℕ). goes_over s2 s1 e prior k (sym (same prior k)) in
    record {
      inferred = λ prior k es i. same prior k i es;
      judged = λ prior k. typed_alike s1 s2 e prior k (to prior k) (from prior k);
      expression = λ prior a es. (
        expression_over s1 s2 e prior (to prior 1) a es,
        expression_over s2 s1 e prior (from prior 1) a es,
      );
      condition = λ v. (condition_over s r r' e (to no_caps 1) v, condition_over s r' r e (from no_caps 1) v);
      copy = λ x. (copy_over s r r' e (to no_caps 1) x, copy_over s r' r e (from no_caps 1) x);
    }

pub agreement_is_enough : AgreementIsEnough
agreement_is_enough s r r' e h = once_if_inferred s r r' e (same_expression s r r' e h)
