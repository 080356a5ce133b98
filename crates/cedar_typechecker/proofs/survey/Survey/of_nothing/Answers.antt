use Rattle.std.proofs.Common.{◌↔◌, List, [], map, refl, sym, subst}
use Rattle.std.specs.Map.{lookup, keys_of}
use Rattle.cedar_types.specs.declared.base.errors.validation_errors.ValidationError.{ValidationError}
use Rattle.cedar_types.specs.Errors.{finding_of}
use Rattle.cedar_typing.specs.Evaluation.Conformance.{IsOneOf}
use Rattle.cedar_typing.proofs.Policies.Tallies.{is_tied}
use Rattle.cedar_typechecker.specs.declared.level_validate.demands.Demand as code
use Rattle.cedar_typechecker.specs.declared.survey.environments.Environments.{Environments}
use Rattle.cedar_typechecker.specs.Levels.Views.{demands_of}
use Rattle.cedar_typechecker.specs.SurveyedErrors.{IsListingIfAny, nowhere}
use Rattle.cedar_typechecker.proofs.survey.Survey.of_nothing.Goals as goal

pub returns-clause-survey : goal.returns-clause-survey
returns-clause-survey c schema =
    let none = sym c.new.ensures.empty in record {
      passes = refl;
      impossible = refl;
      silent = refl;
      applicable = refl;
      errors = λ f.
          let P : List (ValidationError × Environments) → Type 0 = λ es.
          IsOneOf f (map finding_of (keys_of es)) ↔ IsOneOf f [] in
          subst P none (λ i. i, λ i. i);
      environments = λ x.
          let P : List (ValidationError × Environments) → Type 0 = λ es.
          IsListingIfAny [] (lookup (is_tied x) es) in
          ([], nowhere, subst P none refl);
      demands = λ d.
          let P : List code.Demand → Type 0 = λ ds. IsOneOf d (demands_of ds) ↔ ⊥ in
          subst P (sym c.new-2.ensures.empty) (λ i. i, λ i. i);
    }
