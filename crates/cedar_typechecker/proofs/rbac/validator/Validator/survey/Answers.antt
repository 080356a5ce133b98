use Rattle.std.proofs.Common.{[], refl, ap, ◌∙◌}
use Rattle.std.specs.Borrow.{Bor}
use Rattle.cedar_types.specs.declared.base.expressions.extensions.ExtensionSchemas.{ExtensionSchemas}
use Rattle.cedar_types.specs.declared.base.names.policy_ids.PolicyID.{PolicyID}
use Rattle.cedar_types.specs.declared.base.schema.ValidatorSchema.{ValidatorSchema}
use Rattle.cedar_types.specs.Names.{text_of}
use Rattle.cedar_types.specs.Templates.{template_of}
use Rattle.cedar_typing.specs.declared.typecheck.typechecker.Typechecker.{Typechecker}
use Rattle.cedar_typing.specs.Views.Checks.{schema_by, extensions_by, mode_by}
use Rattle.cedar_typing.specs.Views.EnvironmentChecks.{checker_of, checks_left}
use Rattle.cedar_typing.proofs.Policies.ChecksLeft.{of_input}
use Rattle.cedar_typechecker.specs.Surveyed.{AreAllChecksOn}
use Rattle.cedar_typechecker.specs.ValidatorViews.{schema_in, extensions_in, basis_in}
use Rattle.cedar_typechecker.proofs.Levels.Outcomes.{all_left, checks_on}
use Rattle.cedar_typechecker.proofs.Surveyed.Growth.{reordered}
use Rattle.cedar_typechecker.proofs.Surveyed.Whole.{of_none, of_all}
use Rattle.cedar_typechecker.proofs.ValidatorPromises.{survey_kept}
use Rattle.cedar_typechecker.proofs.rbac.validator.Validator.survey.Goals as goal

pub returns-clause-exact : goal.returns-clause-exact
unfolding schema_in extensions_in
returns-clause-exact g c =
    let m = g.C.ArgumentCheck.refusal in
    let v = c.args.self.now in
    let p = c.args.p.now in
    let t = template_of p in
    let b = basis_in m v c.args.mode in
    let s = c.in_ok-checks.checks in
    let n = c.in_ok-checks.ensures in
    let k = c.new-checker.ensures in
    let own_schema = ap (λ (x : Typechecker _). (schema_by x).now) n.checker
    ∙ ap (λ (z : Bor ValidatorSchema). z.now) k.schema in
    let own_extensions = ap (λ (x : Typechecker _). (extensions_by x).now) n.checker
    ∙ ap (λ (z : Bor (ExtensionSchemas _)). z.now) k.extensions in
    let own_mode = ap mode_by n.checker ∙ k.mode in
    let left = all_left c.new-checker.result (schema_in v) c.args.mode p (checks_left s) (checks_left s) refl
    (ap (λ (z : Bor ValidatorSchema). z.now) k.schema) k.mode n.left in
    let on : AreAllChecksOn m s (schema_in v) c.args.mode b t = record {
      are_on = record {
        by_schema = refl;
        are_on = λ e w h.
            checks_on m v c.args.mode (checker_of s) p own_schema own_extensions own_mode e w
            (of_input m s (checker_of s) p refl n.template n.condition e w h);
      };
      by_mode = refl;
      all_left = left;
    } in
    let id = ap (λ (i : PolicyID). text_of i.text) c.in_ok-take_in_policy.ensures.policy
    ∙ c.of_nothing-survey.ensures.policy ∙ c.in_ok-clone.ensures.cases in
    of_all b t c.take_in_policy.new.self id
    (reordered b t c.take_in_policy.new.self (checks_left s) _ left
    (c.in_ok-take_in_policy.ensures.surveys b on [] (of_none b t c.of_nothing-survey.result c.of_nothing-survey.ensures.survey)))

pub returns-clause-kept : goal.returns-clause-kept
returns-clause-kept g c =
    survey_kept g.C.ArgumentCheck.refusal c.args.self.now c.args.mode (template_of c.args.p.now) _
    (returns-clause-exact g c)
