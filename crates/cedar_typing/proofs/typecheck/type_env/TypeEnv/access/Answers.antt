use Rattle.std.proofs.Common.{Some, sym, ap, ◌∙◌}
use Rattle.cedar_types.specs.Types.{Ty}
use Rattle.cedar_typing.specs.Eager.{Decision, refuses}
use Rattle.cedar_typing.specs.Rules.Chains.{after_access}
use Rattle.cedar_typing.specs.Views.{decision_of, findings, progress_of}
use Rattle.cedar_typing.proofs.typecheck.type_env.TypeEnv.access.Goals as goal

pub returns-in-Gives : goal.returns-in-Gives
returns-in-Gives c next =
    let G : Ty → Decision = λ t. next t (progress_of c.args.progress) in
    ap (λ z. after_access z G) (sym (ap decision_of c.in-Gives.is) ∙ c.in_ok-ty.ensures)

pub returns : goal.returns
returns c next =
    let G : Ty → Decision = λ t. next t (progress_of c.args.progress) in
    (λ i. refuses (Some (c.any_bool.ensures i)) (findings c.in-Refuses.errors.items))
    ∙ ap (λ z. after_access z G) (sym (ap decision_of c.in-Refuses.is) ∙ c.in_ok-ty.ensures)
