use Rattle.std.proofs.Common.{sym, ap, ◌∙◌}
use Rattle.cedar_typing.specs.Rules.Chains.{end_of_chain}
use Rattle.cedar_typing.specs.Views.{by_step}
use Rattle.cedar_typing.proofs.typecheck.type_env.TypeEnv.last_step.Goals as goal

pub returns-in-Ends : goal.returns-in-Ends
returns-in-Ends c = ap (λ r. by_step r end_of_chain) (sym c.in-Ends.is) ∙ c.in_ok-decision.ensures.decides end_of_chain

pub returns-in_ok-decision-in-GoesOn : goal.returns-in_ok-decision-in-GoesOn
returns-in_ok-decision-in-GoesOn c =
    c.in_ok-decision-in-GoesOn.ensures
    ∙ ap (λ r. by_step r end_of_chain) (sym c.in-GoesOn.is)
    ∙ c.in_ok-decision.ensures.decides end_of_chain
