use Rattle.std.proofs.Common.{◌≡◌, ◌∙◌, ◌++◌, List, [], ◌∷◌, append-nil, append_assoc, ap, sym, subst, refl}
use Rattle.std.proofs.lemmas.List.{map_push}
use Rattle.cedar_types.specs.declared.base.errors.validation_errors.ValidationError.{ValidationError}
use Rattle.cedar_types.specs.Errors.{Finding, finding_of}
use Rattle.cedar_typing.specs.PolicyCheck.Outcome.{Adds}
use Rattle.cedar_typechecker.specs.Levels.Views.{findings}
use Rattle.cedar_host.specs.Found.{listed}
use Rattle.cedar_host.proofs.Found.{adds_none, adds_one_more}
use Rattle.cedar_host.proofs.slices.add_exceeding.Goals as goal

pub loop-error-init : goal.loop-error-init
loop-error-init c = record { added = adds_none (listed c.args.errors.now); rest = refl }

pub loop-error-preserved : goal.loop-error-preserved
loop-error-preserved c =
    let before = c.loop-error.yielded in
    let error = c.in-Some.error in
    let new = listed c.add_error.new.errors in
    record {
      added =
          subst (λ (es : List Finding). Adds (listed c.args.errors.now) es new) (sym (map_push finding_of before error))
          (adds_one_more (listed c.args.errors.now) (findings before) (listed c.loop-error.errors) new (finding_of error)
          c.loop-error.invariant.added c.in_ok-add_error.ensures);
      rest =
          append_assoc before (error ∷ []) c.next.new.self
          ∙ (ap (λ z. before ++ z) (sym c.in-Some.ensures.steps) ∙ c.loop-error.invariant.rest);
    }

pub returns : goal.returns
returns c =
    let at = c.loop-error in
    let done = at.yielded in
    let all : done ≡ c.args.exceeding.keys =
    sym (append-nil done)
    ∙ (ap (λ z. done ++ z) (sym c.in-None.ensures.steps.0)
    ∙ (at.invariant.rest ∙ c.into_iter-error-iterator.ensures.into_iter_gives.0)) in
    subst (λ (es : List ValidationError). Adds (listed c.args.errors.now) (findings es) (listed at.errors)) all
    at.invariant.added
