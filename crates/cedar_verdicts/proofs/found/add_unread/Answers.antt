use Rattle.std.proofs.Common.{◌≡◌, ◌∙◌, ◌++◌, ◌||◌, Bool, List, [], ◌∷◌, append-nil, append_assoc, ap, sym, subst, rules, refl}
use Rattle.std.specs.List.{list_any}
use Rattle.std.specs.Vec.Iter.{into_iter_items}
use Rattle.cedar_types.specs.declared.base.errors.validation_errors.ValidationError.{ValidationError}
use Rattle.cedar_types.specs.Errors.{Finding, finding_of}
use Rattle.cedar_typechecker.specs.Levels.Views.{findings}
use Rattle.cedar_host.specs.Found.{listed}
use Rattle.cedar_verdicts.specs.Found.{AreAdded}
use Rattle.cedar_verdicts.proofs.Members.{added_one_more, none_left}
use Rattle.cedar_verdicts.proofs.found.add_unread.Goals as goal

pub loop-error-init : goal.loop-error-init
loop-error-init c = record { added = λ p. refl; rest = refl; counted = search rules }

pub loop-error-preserved : goal.loop-error-preserved
loop-error-preserved c =
    let before = c.loop-error.yielded in
    let error = c.in-Some.error in
    record {
      added =
          added_one_more finding_of before error (listed c.args.errors.now) (listed c.loop-error.errors)
          (listed c.add_error.new.errors) c.loop-error.invariant.added c.in_ok-add_error.ensures;
      rest =
          append_assoc before (error ∷ []) (into_iter_items c.next.new.self)
          ∙ (ap (λ z. before ++ z) (sym c.in-Some.ensures.steps.0) ∙ c.loop-error.invariant.rest);
      counted = search rules;
    }

pub returns : goal.returns
returns c =
    let at = c.loop-error in
    let empty : into_iter_items at.error-iterator ≡ [] = none_left _ (sym at.invariant.counted ∙ c.in-None.ensures.steps.0) in
    let all =
    sym (append-nil at.yielded) ∙ rw empty at at.invariant.rest ∙ c.into_iter-error-iterator.ensures.into_iter_gives.0 in
    subst (λ (es : List ValidationError). AreAdded (findings es) (listed c.args.errors.now) (listed at.errors)) all
    at.invariant.added
