use Rattle.std.proofs.Common.{◌++◌, ◌∷◌, [], cond, ap, subst, ◌∙◌}
use Rattle.cedar_types.specs.Schemas.Contents.{schema_of}
use Rattle.cedar_types.specs.Templates.{template_of}
use Rattle.cedar_typing.specs.PolicyCheck.Outcome.{impossible}
use Rattle.cedar_typechecker.specs.Levels.Outcome.{AreApart, name_findings, application_warnings}
use Rattle.cedar_typechecker.specs.Levels.Views.{findings}
use Rattle.cedar_typechecker.specs.Surveys.{errors_of}
use Rattle.cedar_typechecker.specs.ValidatorViews.{schema_in}
use Rattle.cedar_typechecker.proofs.Levels.Outcomes.{all_given}
use Rattle.cedar_typechecker.proofs.ValidatorPromises.{validation_kept}
use Rattle.cedar_typechecker.proofs.rbac.validator.Validator.validate_policy.Goals as goal

pub returns-clause-exact : goal.returns-clause-exact
returns-clause-exact g c =
    let s = schema_of (schema_in c.args.self.now) in
    let t = template_of c.args.p.now in
    let k = c.in_ok-survey.ensures.exact in
    let types = c.into_errors.ensures.errors in
    let before = findings c.in_ok-errors.errors.items in
    let after = findings c.append_keys.new.found.items in
    let added = c.in_ok-append_keys.ensures.all ∙ ap (λ es. before ++ es) types in
    record {
      listed = k.listed;
      verdicts = k.verdicts;
      in_some_order = k.in_some_order;
      checked = k.checked;
      type_errors = errors_of c.in_ok-survey.survey;
      given = all_given before after (name_findings c.args.mode s t) (errors_of c.in_ok-survey.survey) added
          c.in_ok-errors.ensures;
      types = k.errors;
      types_once = subst AreApart types c.in_ok-append_keys.ensures.once;
      warned = c.in_ok-warnings.ensures
          ∙ ap (λ i. application_warnings c.args.mode s t ++ cond i (impossible t ∷ []) [])
          (c.is_impossible.ensures ∙ k.impossible);
    }

pub returns-clause-silent : goal.returns-clause-silent
returns-clause-silent g c =
    (validation_kept g.C.ArgumentCheck.refusal c.args.self.now c.args.mode _ _ _ (returns-clause-exact g c)).silent

pub returns-clause-never_true : goal.returns-clause-never_true
returns-clause-never_true g c =
    (validation_kept g.C.ArgumentCheck.refusal c.args.self.now c.args.mode _ _ _ (returns-clause-exact g c)).never_true
