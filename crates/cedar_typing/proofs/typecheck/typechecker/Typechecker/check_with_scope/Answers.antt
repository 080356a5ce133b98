use Rattle.std.proofs.Common.{ap, ◌∙◌, option_map}
use Rattle.cedar_types.specs.Expressions.View.{written}
use Rattle.cedar_types.specs.Templates.{with_rest}
use Rattle.cedar_typing.specs.PolicyCheck.{policy_check}
use Rattle.cedar_typing.specs.Setting.{Setting}
use Rattle.cedar_typing.proofs.typecheck.typechecker.Typechecker.check_with_scope.Goals as goal

pub returns : goal.returns
returns g c =
    let t = c.args.t.now in
    let e = with_rest t.loc (written c.args.scope.now) (option_map written t.non_scope_constraints) in
    c.into_policy_check.ensures ∙ c.in_ok-check.ensures.verdict
    ∙ ap (λ (s : Setting). policy_check s e) c.in_ok-checker.ensures
