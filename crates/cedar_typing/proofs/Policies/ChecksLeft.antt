-- The checks of a template, one after another.
use Rattle.std.proofs.Common.{◌≡◌, List, ◌∷◌, ◌++◌, Some, Result, Ok, subst}
use Rattle.std.specs.Prelude.{IsPermutation}
use Rattle.std.proofs.lemmas.List.Sorted.{IsPermutation-sym, IsPermutation-trans, IsPermutation-middle}
use Rattle.cedar_types.specs.declared.base.templates.Template.{Template}
use Rattle.cedar_types.specs.declared.types.request_env.RequestEnv.{RequestEnv}
use Rattle.cedar_types.specs.Extensions.Functions.{Refusals}
use Rattle.cedar_types.specs.Environments.RequestEnvs.{Env}
use Rattle.cedar_types.specs.Templates.{template_of, condition_of}
use Rattle.cedar_types.specs.Expressions.Tree.{Tree}
use Rattle.cedar_types.specs.Expressions.View.{Written}
use Rattle.cedar_typing.specs.declared.typecheck.request_env_checks.RequestEnvChecks.{RequestEnvChecks}
use Rattle.cedar_typing.specs.declared.typecheck.typechecker.PolicyCheck.{PolicyCheck}
use Rattle.cedar_typing.specs.declared.typecheck.typechecker.Typechecker.{Typechecker}
use Rattle.cedar_typing.specs.Views.Checks.{setting_within}
use Rattle.cedar_typing.specs.Views.EnvironmentChecks.{checker_of, template_in, condition_in, ChecksIn, GivesChecks}
use Rattle.cedar_typing.specs.PolicyCheck.{Verdict, PolicyChecks}

-- the first environment that was left is done
pub one_more_done : (done left left' all : List Env) (e : Env) → left ≡ e ∷ left' → IsPermutation (done ++ left) all
    → IsPermutation (e ∷ (done ++ left')) all
one_more_done done left left' all e is p =
    let there : IsPermutation (done ++ e ∷ left') all = subst (λ xs. IsPermutation (done ++ xs) all) is p in
    IsPermutation-trans _ (done ++ e ∷ left') _ (IsPermutation-sym _ _ (IsPermutation-middle done e left')) there

module _ {C : Type 0} (meaning : C → Refusals) where
  -- the verdict of an item
  pub of_item : {E : Type 0} (s t : RequestEnvChecks C) (r : Result (RequestEnv × PolicyCheck) E)
      (p : RequestEnv × PolicyCheck) → r ≡ Ok p → GivesChecks {E = E} meaning s (Some r) t
      → GivesChecks {E = E} meaning s (Some (Ok p)) t
  of_item {E} s t r p e h =
      let M : Result (RequestEnv × PolicyCheck) E → Type 0 = λ x. GivesChecks {E = E} meaning s (Some x) t in
      subst M e h

  -- the verdict by the checker and the template of the checks
  pub of_input : (s : RequestEnvChecks C) (c : Typechecker C) (t : Template) → checker_of s ≡ c → template_in s ≡ t
      → condition_in s ≡ condition_of (template_of t) → (e : Env) (v : Verdict)
      → PolicyChecks (setting_within meaning (checker_of s) (template_in s) e) (condition_in s) v
      → ChecksIn meaning c t e v
  of_input s c t hc ht he e v h =
      let P : Typechecker C → Type 0 = λ k. PolicyChecks (setting_within meaning k (template_in s) e) (condition_in s) v in
      let Q : Template → Type 0 = λ k. PolicyChecks (setting_within meaning c k e) (condition_in s) v in
      let R : Tree Written → Type 0 = λ k. PolicyChecks (setting_within meaning c t e) k v in
      subst R he (subst Q ht (subst P hc h))
