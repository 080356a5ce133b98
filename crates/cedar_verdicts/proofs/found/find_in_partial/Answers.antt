use Rattle.std.proofs.Common.{◌∙◌, refl, sym, ap}
use Rattle.std.specs.List.{list_any}
use Rattle.cedar_verdicts.specs.Found.{warns_of_impossible}
use Rattle.cedar_verdicts.proofs.Warned.{warned_once}
use Rattle.cedar_verdicts.proofs.found.find_in_partial.Goals as goal
use Rattle.cedar_verdicts.proofs.found.find_in_partial.Goals.{then-is_impossible+in_ok-id+in_ok-push, else-is_impossible}

pub returns : goal.returns
returns g c =
    let impossible = c.is_impossible-is_impossible.ensures in (
      c.in_ok-survey.survey,
      c.in_ok-survey.ensures.exact,
      record {
        accepted = c.passes-passes.ensures;
        impossible = impossible;
        warned = elim c.if-is_impossible.branch [
          | then-is_impossible+in_ok-id+in_ok-push w ↦
              ap (λ v. list_any warns_of_impossible v.items) w.warnings-is
              ∙ warned_once _ _ _ _ c.new-warnings.ensures.items w.in_ok-push.ensures.items w.impossible_policy.ensures refl
              ∙ sym w.if-is_impossible.true ∙ impossible
          | else-is_impossible w ↦
              ap (λ v. list_any warns_of_impossible v.items) w.warnings-is
              ∙ ap (list_any warns_of_impossible) c.new-warnings.ensures.items
              ∙ sym w.if-is_impossible.false ∙ impossible
        ];
        errors = λ p. ap (list_any p) c.into_errors.ensures.errors;
      },
    )
