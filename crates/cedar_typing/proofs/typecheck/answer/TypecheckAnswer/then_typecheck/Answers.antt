use Rattle.std.proofs.Common.{◌≡◌, Ok, subst, sym, rules}
use Rattle.cedar_types.specs.Capability.{caps, HasNone}
use Rattle.cedar_types.specs.declared.types.capability.CapabilitySet.{CapabilitySet}
use Rattle.cedar_typing.specs.Answer.{TypedExpr, Answered, failed, ok_map, ThenTypechecks}
use Rattle.cedar_typing.specs.contracts.typecheck.answer.TypecheckAnswer.then_typecheck.F-FnOnce as calls
use Rattle.cedar_typing.specs.declared.typecheck.answer.TypecheckAnswer.{TypecheckAnswer}
use Rattle.cedar_typing.specs.declared.typecheck.answer.TypecheckAnswer.TheVariants.{TypecheckFail}
use Rattle.cedar_typing.proofs.typecheck.answer.TypecheckAnswer.then_typecheck.Goals as goal

-- the answer that follows a failure is made a failure
follows : (e : TypedExpr) (gives : TypedExpr → CapabilitySet → Answered → Type 0) (a : TypecheckAnswer) (r answered : Answered)
    (set : CapabilitySet) → a ≡ TypecheckFail e → HasNone (caps set) → gives e set answered → r ≡ ok_map failed answered
    → ThenTypechecks a gives r
follows e gives a r answered set is empty called adjusts =
    subst (λ a. ThenTypechecks a gives r) (sym is)
    (record { set = set; is_empty = empty; answered = answered; called = called; adjusts = adjusts })

pub returns-in_err-answer-in-TypecheckFail : goal.returns-in_err-answer-in-TypecheckFail
returns-in_err-answer-in-TypecheckFail g c =
    follows _ ((calls.words g.row.F g.F.FnOnce).post c.args.f) _ c.from_residual.result c.f-in-TypecheckFail.result c.new.result
    c.in-TypecheckFail.is c.new.ensures c.f-in-TypecheckFail.ensures (search rules)

pub returns-in_ok-answer-in-TypecheckFail : goal.returns-in_ok-answer-in-TypecheckFail
returns-in_ok-answer-in-TypecheckFail g c =
    follows _ ((calls.words g.row.F g.F.FnOnce).post c.args.f) _ (Ok c.into_fail.result) c.f-in-TypecheckFail.result c.new.result
    c.in-TypecheckFail.is c.new.ensures c.f-in-TypecheckFail.ensures (search rules)
