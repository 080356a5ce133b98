-- Warnings among the causes of a policy's findings.
use Rattle.std.specs.Prelude.{◌≡◌, Bool, not, ◌&&◌, ◌||◌, List}
use Rattle.std.specs.BTreeMap.{BTreeMap, keys}
use Rattle.std.specs.List.{list_any}
use Rattle.cedar_types.specs.declared.base.errors.validation_errors.ValidationError.{ValidationError}
use Rattle.cedar_types.specs.declared.base.errors.validation_warnings.ValidationWarning.{ValidationWarning}
use Rattle.cedar_typechecker.specs.declared.survey.environments.Environments.{Environments}
use Rattle.cedar_host.specs.declared.policy_sets.Findings.{Findings}
use Rattle.cedar_verdicts.specs.declared.causes.Found.{Found}
use Rattle.cedar_verdicts.specs.Found.{warns_of_impossible, is_unknown_error}
use Rattle.cedar_verdicts.specs.Mistakes.{says_impossible, may_say_impossible}

-- the warning is that the policy is impossible, and does not follow from a name that the schema does not declare
abbrev pub tells_impossible : BTreeMap ValidationError Environments → ValidationWarning → Bool
tells_impossible errors w = warns_of_impossible w && not (list_any is_unknown_error (keys errors))

-- such a warning is among the findings
abbrev pub warns_that_impossible : Findings → Bool
warns_that_impossible f = list_any warns_of_impossible f.warnings.items && not (list_any is_unknown_error (keys f.errors))

-- causes are added to the old ones: one says that the policy is impossible exactly if this holds, and none is an error
pub record Gain (is_told : Bool) (old new : List Found) : Type 0 where
  pub says : list_any says_impossible new ≡ (list_any says_impossible old || is_told)
  pub may_say : list_any may_say_impossible new ≡ (list_any may_say_impossible old || is_told)
