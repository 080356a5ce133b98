-- The laws on the scope's first tests.
use Rattle.std.proofs.Common.{◌≡◌, [], sym, ap, subst}
use Rattle.cedar_types.specs.Templates.{condition_of}
use Rattle.cedar_typing.specs.Composition.{in_env}
use Rattle.cedar_typing.specs.PolicyCheck.{Verdict, irrelevant, PolicyChecks, SameVerdict, policy_check, same_irrelevant}
use Rattle.cedar_typing.specs.Representatives.{first_tests, FirstTestsDecide, FirstTestsAreAlike, FirstTestsAreQuiet, FirstTestsTestVariables}
use Rattle.cedar_typing.specs.Setting.{Setting}
use Rattle.cedar_typing.specs.TypedExpr.{Source, TypedTree}
use Rattle.cedar_typing.proofs.Policies.Check.{checked}
use Rattle.cedar_typing.proofs.Policies.Verdicts.{verdict_at_most, none, any_order}
use Rattle.cedar_typing.proofs.Representatives.Copies.{first_tests_test_variables}
use Rattle.cedar_typing.proofs.Representatives.Decide.{first_tests_decide}
use Rattle.cedar_typing.proofs.Representatives.LeftOut.{first_tests_quiet}
use Rattle.cedar_typing.proofs.Representatives.SameTests.{first_tests_same}

-- a verdict without errors is the only one of its condition
silent : (v : Verdict) (x : TypedTree) → SameVerdict (irrelevant [] x) v → v ≡ irrelevant [] x
silent v x (same_irrelevant {es' = es} p) = ap (λ l. irrelevant l x) (none es p)

module _ (s : Setting) (e : Source) (x : TypedTree) where
  pub only_verdict : PolicyChecks s e (irrelevant [] x) → (v : Verdict) → PolicyChecks s e v → v ≡ irrelevant [] x
  only_verdict h v k = silent v x (verdict_at_most s e (irrelevant [] x) v h k)

  pub by_function : policy_check s e ≡ irrelevant [] x → PolicyChecks s e (irrelevant [] x)
  by_function h = subst (PolicyChecks s e) h (checked s e)

  pub is_function : PolicyChecks s e (irrelevant [] x) → policy_check s e ≡ irrelevant [] x
  is_function h = only_verdict h (policy_check s e) (checked s e)

pub decide : FirstTestsDecide
decide s t x h v =
    let e = condition_of t in
    let whole : PolicyChecks s e (irrelevant [] x) =
    by_function s e x (first_tests_decide s t [] x (is_function s (first_tests t) x h)) in
    (only_verdict s e x whole v, λ q. subst (PolicyChecks s e) (sym q) whole)

-- two settings in which the check as a function agrees have the same verdicts
carried : (s s' : Setting) (e : Source) → policy_check s e ≡ policy_check s' e → (v : Verdict) → PolicyChecks s e v → PolicyChecks s' e v
carried s s' e q v h =
    any_order s' e (policy_check s' e) v (checked s' e)
    (subst (λ u. SameVerdict u v) q (verdict_at_most s e (policy_check s e) v (checked s e) h))

pub are_alike : FirstTestsAreAlike
are_alike s t e e' h k q v =
    let same = first_tests_same s t e e' h k q in (
      carried (in_env s e) (in_env s e') (first_tests t) same v,
      carried (in_env s e') (in_env s e) (first_tests t) (sym same) v,
    )

pub are_quiet : FirstTestsAreQuiet
are_quiet s t e k h n x whole =
    let here = in_env s e in
    by_function here (first_tests t) x (first_tests_quiet s t e k h n x (is_function here (condition_of t) x whole))

pub test_variables : FirstTestsTestVariables
test_variables s t x h = first_tests_test_variables s t [] x (is_function s (first_tests t) x h)
