use Rattle.std.proofs.Common.{Ok, subst, sym, rules}
use Rattle.cedar_typing.specs.Answer.{MapsCapability}
use Rattle.cedar_typing.specs.declared.typecheck.answer.TypecheckAnswer.TheVariants.{TypecheckSuccess}
use Rattle.cedar_typing.specs.contracts.typecheck.answer.TypecheckAnswer.map_capability.F-FnOnce as calls
use Rattle.cedar_typing.proofs.typecheck.answer.TypecheckAnswer.map_capability.Goals as goal

pub returns-in_err-f-in-TypecheckSuccess : goal.returns-in_err-f-in-TypecheckSuccess
returns-in_err-f-in-TypecheckSuccess g c =
    subst (λ a. MapsCapability a ((calls.words g.row.F g.F.FnOnce).post c.args.f) c.from_residual.result) (sym c.in-TypecheckSuccess.is)
    (c.f.result, c.f.ensures, search rules)

pub returns-in_ok-f-in-TypecheckSuccess : goal.returns-in_ok-f-in-TypecheckSuccess
returns-in_ok-f-in-TypecheckSuccess g c =
    subst (λ a. MapsCapability a ((calls.words g.row.F g.F.FnOnce).post c.args.f)
    (Ok (TypecheckSuccess c.in-TypecheckSuccess.expr_type c.in_ok-f-in-TypecheckSuccess.field-0)))
    (sym c.in-TypecheckSuccess.is)
    (c.f.result, c.f.ensures, search rules)
