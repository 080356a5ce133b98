use Rattle.std.proofs.Common.{◌≡◌, ◌&&◌, ◌++◌, ◌∷◌, [], Bool, true, cond, refl, sym, ap, subst, ◌∙◌}
use Rattle.std.specs.Prelude.{IsPermutation}
use Rattle.cedar_types.specs.Lemmas.Comparisons.{and_left, and_right}
use Rattle.cedar_types.specs.declared.base.types.ValidationMode.TheVariants.{Strict}
use Rattle.cedar_types.specs.Schemas.Contents.{schema_of}
use Rattle.cedar_types.specs.Schemas.{Schema}
use Rattle.cedar_types.specs.Templates.{template_of}
use Rattle.cedar_typing.specs.PolicyCheck.Outcome.{is_silent, impossible}
use Rattle.cedar_typechecker.specs.Levels.Outcome.{name_findings, application_warnings}
use Rattle.cedar_typechecker.specs.Levels.Views.{findings}
use Rattle.cedar_typechecker.specs.Surveys.{errors_of}
use Rattle.cedar_typechecker.specs.ValidatorViews.{schema_in}
use Rattle.cedar_host.specs.Found.{listed}
use Rattle.cedar_host.proofs.Found.{named, names_silent, gained_behind, same_members, unchanged}
use Rattle.cedar_host.proofs.policy_sets.find.Goals as goal

pub returns-clause-named : goal.returns-clause-named
returns-clause-named g c h =
    let t = template_of c.args.policy.now in
    let s = schema_of (schema_in c.args.validator.now) in
    let found = c.in_ok-misnamed.misnamed.items in
    let P : Schema → Type 0 = λ s. IsPermutation (findings found) (name_findings Strict s t) in
    let permuted = subst P (ap schema_of c.schema.ensures) c.in_ok-misnamed.ensures in
    let none = names_silent s t found c.in_ok-misnamed.misnamed.len c.is_empty-is_named.result permuted
    c.in_ok-misnamed.misnamed.ok.0 c.is_empty-is_named.ensures in
    named s t (sym none ∙ and_left _ _ h)

pub returns-clause-passes : goal.returns-clause-passes
returns-clause-passes g c h = sym c.passes-passes.ensures ∙ and_right _ _ h

pub returns-clause-exact : goal.returns-clause-exact
returns-clause-exact g c =
    let t = template_of c.args.policy.now in
    let s = schema_of (schema_in c.args.validator.now) in
    let found = c.in_ok-misnamed.misnamed.items in
    let P : Schema → Type 0 = λ s. IsPermutation (findings found) (name_findings Strict s t) in
    let permuted = subst P (ap schema_of c.schema.ensures) c.in_ok-misnamed.ensures in
    let none = names_silent s t found c.in_ok-misnamed.misnamed.len c.is_empty-is_named.result permuted
    c.in_ok-misnamed.misnamed.ok.0 c.is_empty-is_named.ensures in
    let passes = c.passes-passes.ensures in
    let before = listed c.into_errors-errors.result in
    let warned = application_warnings Strict s t in
    record {
      accepted = λ i. none i && passes i;
      impossible = c.is_impossible-is_impossible.ensures;
      applicable = c.applicable_environments-applicable_environments.ensures;
      errors =
          gained_behind before (findings found) (listed c.add_all.new.errors) (errors_of c.args.survey)
          (name_findings Strict s t) c.in_ok-add_all.ensures
          (unchanged before (errors_of c.args.survey) c.into_errors-errors.ensures.errors)
          (same_members (findings found) (name_findings Strict s t) permuted);
      warnings =
          c.in_ok-warnings.ensures
          ∙ ap (λ (b : Bool). warned ++ cond b (impossible t ∷ []) []) c.is_impossible-is_impossible.ensures;
    }
