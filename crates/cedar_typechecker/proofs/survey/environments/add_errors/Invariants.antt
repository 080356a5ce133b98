use Rattle.std.proofs.Common.{◌≡◌, ◌++◌}
use Rattle.std.specs.BTreeMap.{get}
use Rattle.cedar_types.specs.declared.base.errors.validation_errors.ValidationError.{ValidationError}
use Rattle.cedar_types.specs.Environments.RequestEnvs.{env_of}
use Rattle.cedar_types.specs.ErrorOrder.{error_cmp}
use Rattle.cedar_types.specs.Errors.{finding_of}
use Rattle.cedar_typechecker.specs.Levels.Outcome.{AreApart}
use Rattle.cedar_typechecker.specs.Levels.Views.{findings}
use Rattle.cedar_typechecker.specs.SurveyedErrors.{AddsEnvironment}
use Rattle.cedar_typechecker.proofs.survey.environments.add_errors.Given as goal

-- the environment was added to the errors so far, and no error comes twice
abbrev pub invariant-loop-error : goal.invariant-loop-error
invariant-loop-error l =
    ((x : ValidationError) → AddsEnvironment (env_of l.env) (findings l.yielded) (finding_of x)
    (get error_cmp l.initial.all x) (get error_cmp l.all x))
    × (l.yielded ++ l.error-iterator ≡ l.initial.error-iterator)
    × AreApart (findings l.initial.error-iterator)
