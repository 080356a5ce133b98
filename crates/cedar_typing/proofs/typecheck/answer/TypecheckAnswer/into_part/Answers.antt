use Rattle.std.proofs.Common.{Some, false, subst, sym, refl}
use Rattle.cedar_typing.specs.Views.{BecomesPart}
use Rattle.cedar_typing.proofs.typecheck.answer.TypecheckAnswer.into_part.Goals as goal

pub returns-in-TypecheckFail-clause-handed : goal.returns-in-TypecheckFail-clause-handed
returns-in-TypecheckFail-clause-handed c =
    subst
    (λ a. BecomesPart a
    (Some
    (record { typed = c.in-TypecheckFail.expr_recovery_type; capabilities = c.new.result; succeeded = false })))
    (sym c.in-TypecheckFail.is)
    (c.new.result, c.new.ensures, refl)
