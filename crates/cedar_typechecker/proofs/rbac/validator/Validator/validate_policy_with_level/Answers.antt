use Rattle.std.proofs.Common.{◌≤◌, ◌++◌, ◌∷◌, [], List, map, cond, sym, ap, subst, ◌∙◌, arith}
use Rattle.std.specs.Prelude.{IsPermutation}
use Rattle.cedar_types.specs.Errors.{Finding, finding_of, warning_of}
use Rattle.cedar_types.specs.Schemas.Contents.{schema_of}
use Rattle.cedar_types.specs.Templates.{template_of}
use Rattle.cedar_typing.specs.PolicyCheck.Outcome.{impossible}
use Rattle.cedar_typechecker.specs.Levels.Answers.{level_errors_left, level_warnings_left}
use Rattle.cedar_typechecker.specs.Levels.Outcome.{name_findings, application_warnings}
use Rattle.cedar_typechecker.specs.Levels.Views.{findings}
use Rattle.cedar_typechecker.specs.Surveys.{errors_of}
use Rattle.cedar_typechecker.specs.ValidatorViews.{schema_in}
use Rattle.cedar_typechecker.proofs.Levels.Outcomes.{all_given, both_ways}
use Rattle.cedar_typechecker.proofs.ValidatorPromises.{outcome_kept}
use Rattle.cedar_typechecker.proofs.rbac.validator.Validator.validate_policy_with_level.Goals as goal

pub returns-clause-exact : goal.returns-clause-exact
unfolding level_errors_left level_warnings_left
returns-clause-exact g c =
    let s = schema_of (schema_in c.args.self.now) in
    let t = template_of c.args.p.now in
    let k = c.in_ok-survey.ensures.exact in
    let a = c.in_ok-append_found.ensures in
    let of_types = errors_of c.in_ok-survey.survey in
    let names = name_findings c.args.mode s t in
    let before = findings c.in_ok-errors.errors.items in
    let after = findings c.append_found.new.found.items in
    let small : c.args.max_deref_level ≤ 4294967295 =
    omega (arith, c.ranges.max_deref_level.fits) in
    let Given : List Finding → Type 0 = λ es.
    IsPermutation es (names ++ (of_types ++ a.level_errors)) in
    record {
      listed = k.listed;
      verdicts = k.verdicts;
      in_some_order = k.in_some_order;
      checked = k.checked;
      type_errors = of_types;
      level_errors = a.level_errors;
      given = subst Given (ap (map finding_of) (sym c.into_iter.ensures.rest))
          (all_given before after names (of_types ++ a.level_errors) a.added c.in_ok-errors.ensures);
      types = k.errors;
      types_once = a.types_once;
      levels = λ e. both_ways (a.levels e) (k.levels c.args.max_deref_level small e);
      levels_once = a.levels_once;
      warned = ap (map warning_of) c.into_iter-2.ensures.rest
          ∙ (c.in_ok-warnings.ensures
          ∙ ap (λ i. application_warnings c.args.mode s t ++ cond i (impossible t ∷ []) [])
          (c.is_impossible.ensures ∙ k.impossible));
    }

pub returns-clause-silent : goal.returns-clause-silent
returns-clause-silent g c =
    (outcome_kept g.C.ArgumentCheck.refusal c.args.self.now c.args.mode _ _ _ _ (returns-clause-exact g c)).silent

pub returns-clause-never_true : goal.returns-clause-never_true
returns-clause-never_true g c =
    (outcome_kept g.C.ArgumentCheck.refusal c.args.self.now c.args.mode _ _ _ _ (returns-clause-exact g c)).never_true
