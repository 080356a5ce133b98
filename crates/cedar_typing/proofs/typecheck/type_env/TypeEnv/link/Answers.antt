use Rattle.std.proofs.Common.{sym, ap, subst, ◌≡◌, ◌∙◌}
use Rattle.cedar_types.specs.ChainSteps.{step_attr, step_written}
use Rattle.cedar_types.specs.Types.Lookups.{attribute_type}
use Rattle.cedar_types.specs.Types.{ty_of}
use Rattle.cedar_typing.specs.Capabilities.Priors.{known_in}
use Rattle.cedar_typing.specs.Capabilities.{union}
use Rattle.cedar_typing.specs.Eager.{Decision}
use Rattle.cedar_typing.specs.Rules.Attributes.{attribute_of, get_decides}
use Rattle.cedar_typing.specs.Rules.Chains.{Progress, after_access}
use Rattle.cedar_typing.specs.Views.{KnowsAfter, by_step, env_at, progress_of}
use Rattle.cedar_typing.proofs.typecheck.type_env.TypeEnv.link.Goals as goal

pub returns-in-Ends : goal.returns-in-Ends
returns-in-Ends c next =
    let env = env_at c.args.self.now in
    let e = step_written c.args.at.now in
    let s = ty_of c.args.ty.now in
    let x = step_attr c.args.at.now in
    let prior = known_in c.args.prior.now in
    let F : Progress → Decision = λ q.
    after_access (get_decides env c.args.place x (union prior q.earned (attribute_of e x)) s (attribute_type env.schema s x)) (λ t. next t q) in
    ap (λ r. by_step r F) (sym c.in-Ends.is) ∙ c.in_ok-decision.ensures.decides F

pub returns-in_ok-link-in-GoesOn : goal.returns-in_ok-link-in-GoesOn
returns-in_ok-link-in-GoesOn c next =
    let env = env_at c.args.self.now in
    let e = step_written c.args.at.now in
    let s = ty_of c.args.ty.now in
    let x = step_attr c.args.at.now in
    let prior = known_in c.args.prior.now in
    let p = progress_of c.in-GoesOn.progress in
    let F : Progress → Decision = λ q.
    after_access (get_decides env c.args.place x (union prior q.earned (attribute_of e x)) s (attribute_type env.schema s x)) (λ t. next t q) in
    let known : c.in-GoesOn.is_known ≡ union prior p.earned (attribute_of e x) =
    subst (λ r. KnowsAfter prior (attribute_of e x) r) c.in-GoesOn.is c.in_ok-decision.ensures.knows in
    c.in_ok-link-in-GoesOn.ensures next
    ∙ (λ i. after_access (get_decides env c.args.place (c.attr.ensures i) (known i) s (attribute_type env.schema s (c.attr.ensures i))) (λ t. next t p))
    ∙ ap (λ r. by_step r F) (sym c.in-GoesOn.is) ∙ c.in_ok-decision.ensures.decides F
