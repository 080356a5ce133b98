-- Views of the iterator over the checks of a template.
use Rattle.std.specs.Prelude.{◌≡◌, Bool, List, [], cond, Option, Some, None, option_map, Result, Ok, Err}
use Rattle.cedar_types.specs.declared.base.templates.Template.{Template}
use Rattle.cedar_types.specs.declared.types.request_env.RequestEnv.{RequestEnv}
use Rattle.cedar_types.specs.Extensions.Functions.{Refusals}
use Rattle.cedar_types.specs.FallibleIterators.{YieldsOrEnds}
use Rattle.cedar_types.specs.Environments.LinkViews.{linked_left}
use Rattle.cedar_types.specs.Environments.RequestEnvs.{Env, env_of}
use Rattle.cedar_types.specs.Templates.{template_of, condition_of, with_rest}
use Rattle.cedar_types.specs.Expressions.Tree.{Tree}
use Rattle.cedar_types.specs.Expressions.View.{Written, written}
use Rattle.cedar_typing.specs.declared.typecheck.request_env_checks.RequestEnvChecks.{RequestEnvChecks}
use Rattle.cedar_typing.specs.declared.typecheck.typechecker.PolicyCheck.{PolicyCheck}
use Rattle.cedar_typing.specs.declared.typecheck.typechecker.Typechecker.{Typechecker}
use Rattle.cedar_typing.specs.Views.Checks.{verdict_of, setting_within}
use Rattle.cedar_typing.specs.PolicyCheck.{Verdict, PolicyChecks}

module _ {C : Type 0} where
  -- the checker, and the template that it checks
  unfoldable pub checker_of : RequestEnvChecks C → Typechecker C
  checker_of s = s.checker.now

  unfoldable pub template_in : RequestEnvChecks C → Template
  template_in s = s.template.now

  -- the condition that is typed: the scope's part, and the template's rest
  unfoldable pub condition_in : RequestEnvChecks C → Tree Written
  condition_in s =
      with_rest s.template.now.loc (written s.scope)
      (option_map written s.template.now.non_scope_constraints)

  -- the environments whose checks are still to come
  unfoldable pub checks_left : RequestEnvChecks C → List Env
  checks_left s = cond s.ended [] (linked_left s.linked)

  -- whether the iterator has ended for good
  unfoldable pub checks_are_over : RequestEnvChecks C → Bool
  checks_are_over s = s.ended

  -- the verdicts of a template's condition in an environment
  abbrev pub ChecksIn : (C → Refusals) → Typechecker C → Template → Env → Verdict → Type 0
  ChecksIn meaning c t env v =
      PolicyChecks (setting_within meaning c t env) (condition_of (template_of t)) v

  -- an item has the check of this condition in its environment
  abbrev pub IsCheckOf : {E : Type 0} → (C → Refusals) → Typechecker C → Template → Tree Written
      → Option (Result (RequestEnv × PolicyCheck) E) → Type 0
  IsCheckOf meaning c t e None = Unit {0}
  IsCheckOf meaning c t e (Some (Err f)) = Unit {0}
  IsCheckOf meaning c t e (Some (Ok p)) =
      PolicyChecks (setting_within meaning c t (env_of p.0)) e (verdict_of p.1)

  -- two states have the same input
  pub record SameInput (s t : RequestEnvChecks C) : Type 0 where
    pub checker : checker_of t ≡ checker_of s
    pub template : template_in t ≡ template_in s
    pub condition : condition_in t ≡ condition_in s

  -- a call from s gave the check of the first environment that was left, or ended
  abbrev pub GivesChecks : {E : Type 0} → (C → Refusals) → RequestEnvChecks C
      → Option (Result (RequestEnv × PolicyCheck) E) → RequestEnvChecks C → Type 0
  GivesChecks meaning s o t =
      YieldsOrEnds checks_left checks_are_over (λ p. env_of p.0) s o t
      × IsCheckOf meaning (checker_of s) (template_in s) (condition_in s) o
      × SameInput s t
