-- The survey of some environments grows by one, and by several one after another.
use Rattle.std.proofs.Common.{◌≡◌, List, [], ◌∷◌, ◌++◌, append-nil, append_assoc, sym, subst}
use Rattle.std.specs.Prelude.{IsPermutation}
use Rattle.std.proofs.lemmas.List.Sorted.{IsPermutation-sym, IsPermutation-trans, IsPermutation-cons, IsPermutation-to_front, IsPermutation-append_right}
use Rattle.cedar_types.specs.declared.base.schema.ValidatorSchema.{ValidatorSchema}
use Rattle.cedar_types.specs.declared.base.templates.Template.{Template}
use Rattle.cedar_types.specs.Environments.RequestEnvs.{Env}
use Rattle.cedar_types.specs.Extensions.Functions.{Refusals}
use Rattle.cedar_types.specs.Expressions.Tree.{Tree}
use Rattle.cedar_types.specs.Expressions.View.{Written}
use Rattle.cedar_types.specs.Schemas.{Schema}
use Rattle.cedar_types.specs.Schemas.Contents.{schema_of}
use Rattle.cedar_types.specs.Templates.{PlainTemplate}
use Rattle.cedar_typing.specs.declared.typecheck.request_env_checks.RequestEnvChecks.{RequestEnvChecks}
use Rattle.cedar_typing.specs.declared.typecheck.typechecker.Typechecker.{Typechecker}
use Rattle.cedar_typing.specs.PolicyCheck.{Verdict, PolicyChecks}
use Rattle.cedar_typing.specs.Soundness.Policies.{Basis}
use Rattle.cedar_typing.specs.Views.Checks.{setting_within}
use Rattle.cedar_typing.specs.Views.EnvironmentChecks.{checker_of, template_in, condition_in, SameInput}
use Rattle.cedar_typechecker.specs.declared.survey.Survey.{Survey}
use Rattle.cedar_typechecker.specs.Levels.Outcome.{ChecksOn}
use Rattle.cedar_typechecker.specs.Surveyed.{IsSurveyed, TakesIn, AreChecksOn}
use Rattle.cedar_typechecker.specs.Surveys.{Surveys}

module _ (b : Basis) (t : PlainTemplate) where
  -- a survey is one of the environments in another order too
  pub reordered : (s : Survey) (xs ys : List Env) → IsPermutation xs ys → IsSurveyed b t s xs → IsSurveyed b t s ys
  reordered s xs ys p h = record {
    listed = h.listed;
    verdicts = h.verdicts;
    in_some_order = IsPermutation-trans h.listed xs ys h.in_some_order p;
    checked = h.checked;
    surveys = h.surveys;
  }

  pub takes_none : (s : Survey) → TakesIn b t s s []
  takes_none s all h = subst (IsSurveyed b t s) (sym (append-nil all)) h

  pub takes_both : (old mid new : Survey) (xs ys : List Env) → TakesIn b t old mid xs → TakesIn b t mid new ys
      → TakesIn b t old new (xs ++ ys)
  takes_both old mid new xs ys f g all h = subst (IsSurveyed b t new) (append_assoc all xs ys) (g (all ++ xs) (f all h))

  pub takes_moved : (old new : Survey) (xs ys : List Env) → IsPermutation xs ys → TakesIn b t old new xs → TakesIn b t old new ys
  takes_moved old new xs ys p f all h = reordered new (all ++ xs) (all ++ ys) (IsPermutation-append_right all xs ys p) (f all h)

  -- one environment, by its check
  pub takes_one : (old new : Survey) (e : Env) (v : Verdict) → ChecksOn b t e v
      → ((envs : List Env) (vs : List Verdict) → Surveys b.schema old envs vs → Surveys b.schema new (e ∷ envs) (v ∷ vs))
      → TakesIn b t old new (e ∷ [])
  takes_one old new e v checked more all h = record {
    listed = e ∷ h.listed;
    verdicts = v ∷ h.verdicts;
    in_some_order =
        IsPermutation-trans (e ∷ h.listed) (e ∷ all) (all ++ e ∷ []) (IsPermutation-cons e h.listed all h.in_some_order)
        (IsPermutation-sym (all ++ e ∷ []) (e ∷ all) (IsPermutation-to_front all e));
    checked = (checked, h.checked);
    surveys = more h.listed h.verdicts h.surveys;
  }

-- by the schema of the program
pub takes_checked : (b : Basis) (t : PlainTemplate) (schema : ValidatorSchema) → b.schema ≡ schema_of schema → (old new : Survey) (e : Env) (v : Verdict)
    → ChecksOn b t e v
    → ((envs : List Env) (vs : List Verdict) → Surveys (schema_of schema) old envs vs → Surveys (schema_of schema) new (e ∷ envs) (v ∷ vs))
    → TakesIn b t old new (e ∷ [])
takes_checked b t schema same old new e v checked more =
    let P : Schema → Type 0 = λ s. (envs : List Env) (vs : List Verdict) → Surveys s old envs vs → Surveys s new (e ∷ envs) (v ∷ vs) in
    takes_one b t old new e v checked (subst P (sym same) more)

-- checks with the same input are checks of the same policy
pub still_checks : {C : Type 0} (meaning : C → Refusals) (c c' : RequestEnvChecks C) (schema : ValidatorSchema) (b : Basis) (t : PlainTemplate)
    → SameInput c c' → AreChecksOn meaning c schema b t → AreChecksOn meaning c' schema b t
still_checks {C} meaning c c' schema b t same h = record {
  by_schema = h.by_schema;
  are_on = λ e v k. h.are_on e v (back e v k);
}
  where
    back : (e : Env) (v : Verdict) → PolicyChecks (setting_within meaning (checker_of c') (template_in c') e) (condition_in c') v
        → PolicyChecks (setting_within meaning (checker_of c) (template_in c) e) (condition_in c) v
    back e v k =
        let P : Typechecker C → Type 0 = λ x. PolicyChecks (setting_within meaning x (template_in c') e) (condition_in c') v in
        let Q : Template → Type 0 = λ x. PolicyChecks (setting_within meaning (checker_of c) x e) (condition_in c') v in
        let R : Tree Written → Type 0 = λ x. PolicyChecks (setting_within meaning (checker_of c) (template_in c) e) x v in
        subst R same.condition (subst Q same.template (subst P same.checker k))
