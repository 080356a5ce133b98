use Rattle.std.proofs.Common.{◌≡◌, sym, ◌∙◌, subst}
use Rattle.cedar_types.specs.Templates.{PlainTemplate, template_of, scope_condition, condition_of, with_rest}
use Rattle.cedar_typing.specs.PolicyCheck.{PolicyChecks, policy_check}
use Rattle.cedar_typing.specs.PolicyCheck.Trees.{HasTypedCondition, condition_tree}
use Rattle.cedar_typing.specs.Setting.{Setting}
use Rattle.cedar_typing.specs.TypedExpr.{Source}
use Rattle.cedar_typing.specs.Views.Checks.{setting_for}
use Rattle.cedar_typing.proofs.Policies.Check.{checked}
use Rattle.cedar_typing.proofs.Policies.Trees.{has_typed_condition}
use Rattle.cedar_typing.proofs.typecheck.typechecker.Typechecker.typecheck_condition.Goals as goal

-- a statement on every condition of a setting holds of the template's, of which the check gets the parts
of_parts : {A : Type 0} (P : Setting → Source → A → Type 0) (of : Setting → Source → A) → ((s : Setting) (e : Source) → P s e (of s e))
    → (s s' : Setting) (t : PlainTemplate) (scope : Source) (seen : A) → seen ≡ of s' (with_rest t.place scope t.rest) → s' ≡ s
    → scope ≡ scope_condition t → P s (condition_of t) seen
of_parts P of so s s' t scope seen is setting parts =
    subst (P s (condition_of t)) (sym (is ∙ (λ i. of (setting i) (with_rest t.place (parts i) t.rest)))) (so s (condition_of t))

pub returns-clause-exact : goal.returns-clause-exact
returns-clause-exact g c =
    of_parts PolicyChecks policy_check checked (setting_for g.C.ArgumentCheck.refusal c.args.self.now c.args.t.now c.args.env.now) _
    (template_of c.args.t.now) _ _ c.in_ok-check.ensures.verdict c.in_ok-checker.ensures c.in_ok-scope.ensures

pub returns-clause-tree : goal.returns-clause-tree
returns-clause-tree g c =
    of_parts HasTypedCondition condition_tree has_typed_condition
    (setting_for g.C.ArgumentCheck.refusal c.args.self.now c.args.t.now c.args.env.now) _
    (template_of c.args.t.now) _ _ c.in_ok-check.ensures.tree c.in_ok-checker.ensures c.in_ok-scope.ensures
