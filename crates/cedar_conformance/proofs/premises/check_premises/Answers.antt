use Rattle.std.proofs.Common.{◌∙◌, ap, sym}
use Rattle.std.proofs.lemmas.Result.{IfErr-weaker}
use Rattle.cedar_conformance.specs.Answers.{fault_in}
use Rattle.cedar_conformance.proofs.MetPremises.{unmet, met, refused, not_closed, all_decided, first_behind}
use Rattle.cedar_conformance.proofs.premises.check_premises.Goals as goal

pub returns-then-is_external : goal.returns-then-is_external
returns-then-is_external c =
    let external = sym c.in_ok-is_external.ensures ∙ c.if-is_external.true in
    record { exact = refused (λ p. not_closed c.args.schema.now external p.closed); first = external }

pub returns-in_ok-checked-in-Ok : goal.returns-in_ok-checked-in-Ok
returns-in_ok-checked-in-Ok c =
    let closed = sym c.in_ok-is_external.ensures ∙ c.if-is_external.false in
    let formed = met _ _ c.in-Ok.is c.in_ok-check_policy.ensures.exact in
    record {
      exact =
          all_decided c.args.schema.now c.args.template.now c.args.values.now c.args.request.now c.args.entities.now
          c.in_ok-checked-in-Ok.checked closed formed c.in_ok-checked-in-Ok.ensures.exact;
      first =
          IfErr-weaker c.in_ok-checked-in-Ok.checked _ _
          (λ f h.
          first_behind c.args.schema.now c.args.template.now c.args.values.now c.args.request.now c.args.entities.now f
          closed formed h)
          c.in_ok-checked-in-Ok.ensures.first;
    }

pub returns-in-Err : goal.returns-in-Err
returns-in-Err c =
    let closed = sym c.in_ok-is_external.ensures ∙ c.if-is_external.false in
    let unfit = unmet _ _ c.in-Err.is c.in_ok-check_policy.ensures.exact in
    let found = sym c.in_ok-check_policy.ensures.fault ∙ ap fault_in c.in-Err.is in
    record { exact = refused (λ p. unfit p.well_formed); first = (closed, unfit, found) }
