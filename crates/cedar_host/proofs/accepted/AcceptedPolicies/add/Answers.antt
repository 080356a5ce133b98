use Rattle.std.proofs.Common.{IsOk, is_ok, Ok, refl, sym, subst}
use Rattle.cedar_host.specs.Accepted.{AcceptsExactly, IsAdmissible}
use Rattle.cedar_host.specs.Safety.{sound_basis}
use Rattle.cedar_host.proofs.Admitted.{answered_by}
use Rattle.cedar_host.proofs.Reported.{right_if_pushed}
use Rattle.cedar_host.proofs.accepted.AcceptedPolicies.add.Goals as goal

pub invariant_of-self-in-Ok : goal.invariant_of-self-in-Ok
invariant_of-self-in-Ok g c =
    let held = c.self.inside in
    let b = sound_basis held.mode g.C.ArgumentCheck.refusal held.validator.now in
    let fits = c.in_ok-check_linked.ensures.admissible (subst (λ r. IsOk r) (sym c.in-Ok.is) refl) in
    right_if_pushed (IsAdmissible b held.steps) (is_ok c.push.result) held.policies.items c.push.new.self.items
    c.args.policy c.push.ensures.items c.self.invariant fits

pub returns-in_ok-push-in-Ok-clause-exact : goal.returns-in_ok-push-in-Ok-clause-exact
returns-in_ok-push-in-Ok-clause-exact g c =
    let held = c.self.inside in
    let b = sound_basis held.mode g.C.ArgumentCheck.refusal held.validator.now in
    let fits =
    subst (λ r. AcceptsExactly b held.steps c.args.policy r) c.in-Ok.is c.in_ok-check_linked.ensures.exact in
    answered_by g.C.ArgumentCheck.refusal c.args.policy (Ok tt)
    (held.validator.now, held.mode, held.steps, held.policies.items) c.args.self.now c.self.view_is fits
