use Rattle.std.proofs.Common.{◌++◌, sym, ap, ◌∙◌, append-nil}
use Rattle.std.proofs.lemmas.List.{nil_from_length}
use Rattle.cedar_typing.specs.Views.{findings}
use Rattle.cedar_typing.proofs.Views.Parts.{one_more_finding}
use Rattle.cedar_typing.proofs.typecheck.rules.eager.add_errors.Goals as goal

pub loop-error-init : goal.loop-error-init
loop-error-init c = ap (λ es. findings c.args.errors.now.items ++ findings es) c.into_iter-error-iterator.ensures.into_iter_gives.0

pub loop-error-preserved : goal.loop-error-preserved
loop-error-preserved c =
    ap (λ es. findings es ++ findings c.next.new.self.rest.items) c.in_ok-push.ensures.items
    ∙ one_more_finding c.loop-error.errors.items c.in-Some.error (findings c.next.new.self.rest.items)
    ∙ ap (λ es. findings c.loop-error.errors.items ++ findings es) (sym c.in-Some.ensures.steps.0)
    ∙ c.loop-error.invariant

pub returns : goal.returns
returns c =
    let none_left = nil_from_length c.loop-error.error-iterator.rest.items
    (sym c.loop-error.error-iterator.rest.ok.0 ∙ c.in-None.ensures.steps.0) in
    sym (append-nil (findings c.loop-error.errors.items))
    ∙ ap (λ es. findings c.loop-error.errors.items ++ findings es) (sym none_left) ∙ c.loop-error.invariant
