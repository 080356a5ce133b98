-- Neither the schema nor the table of a validator has a fault, so the outcomes of its calls keep
-- the promises.
use Rattle.std.proofs.Common.{◌≡◌, ℕ, false, List, None}
use Rattle.cedar_types.specs.declared.base.types.ValidationMode.{ValidationMode}
use Rattle.cedar_types.specs.Errors.{Finding, Warning}
use Rattle.cedar_types.specs.Extensions.Functions.{Refusals, table_fault}
use Rattle.cedar_types.specs.Extensions.{functions_of}
use Rattle.cedar_types.specs.Schemas.Contents.{schema_of}
use Rattle.cedar_types.specs.Schemas.{has_fault}
use Rattle.cedar_types.specs.Templates.{PlainTemplate}
use Rattle.cedar_types.proofs.Expressions.SortedTables.{no_fault}
use Rattle.cedar_typing.specs.Modes.{IsFormedFor}
use Rattle.cedar_typing.specs.Soundness.Policies.{Basis}
use Rattle.cedar_typing.proofs.Modes.{formed_for}
use Rattle.cedar_typechecker.specs.declared.rbac.validator.Validator.{Validator}
use Rattle.cedar_typechecker.specs.declared.survey.Survey.{Survey}
use Rattle.cedar_typechecker.specs.Levels.Outcome.{ValidationOutcome, LevelOutcome}
use Rattle.cedar_typechecker.specs.Slices.Surveys.{SurveyIsKept}
use Rattle.cedar_typechecker.specs.Slices.Validation.{OutcomeIsKept}
use Rattle.cedar_typechecker.specs.Surveys.{IsSurveyOf}
use Rattle.cedar_typechecker.specs.Validations.{ValidationIsKept}
use Rattle.cedar_typechecker.specs.ValidatorViews.{schema_in, extensions_in, basis_in}
use Rattle.cedar_typechecker.proofs.Slices.Surveys.{survey_is_kept}
use Rattle.cedar_typechecker.proofs.Slices.Validation.{outcomes_are_kept}
use Rattle.cedar_typechecker.proofs.Validations.{validations_are_kept}

module _ {C : Type 0} (meaning : C → Refusals) (v : Validator C) (m : ValidationMode)
    (t : PlainTemplate) where
  abbrev basis : Basis
  basis = basis_in meaning v m

  faultless : has_fault basis.schema ≡ false
  unfolding schema_of schema_in
  faultless = v.schema.faultless

  formed : IsFormedFor basis.mode basis.schema
  unfolding schema_of schema_in
  formed = formed_for basis.mode basis.schema v.schema.formed

  faultless_table : table_fault basis.table.functions ≡ None
  unfolding functions_of extensions_in
  faultless_table =
      let extensions = v.extensions.now in
      no_fault meaning extensions.functions.items extensions.faultless

  pub validation_kept : (errors : List Finding) (warnings : List Warning)
      → ValidationOutcome basis t errors warnings → ValidationIsKept basis t errors warnings
  validation_kept = validations_are_kept basis t faultless formed faultless_table

  pub outcome_kept : (n : ℕ) (errors : List Finding) (warnings : List Warning)
      → LevelOutcome basis t n errors warnings → OutcomeIsKept basis t n errors warnings
  outcome_kept = outcomes_are_kept basis t faultless formed faultless_table

  pub survey_kept : (s : Survey) → IsSurveyOf basis t s → SurveyIsKept basis t s
  survey_kept s h = survey_is_kept basis t s h faultless formed faultless_table
