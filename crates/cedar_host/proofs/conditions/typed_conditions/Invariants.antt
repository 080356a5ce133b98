use Rattle.std.proofs.Common.{◌≡◌, ◌++◌, List, map, All}
use Rattle.std.specs.Prelude.{IsPermutation}
use Rattle.cedar_types.specs.Environments.Linking.{checked_envs}
use Rattle.cedar_types.specs.Environments.RequestEnvs.{Env}
use Rattle.cedar_types.specs.Schemas.Contents.{schema_of}
use Rattle.cedar_types.specs.Templates.{template_of, condition_of}
use Rattle.cedar_typing.specs.Views.Checks.{schema_by, mode_by, basis_of}
use Rattle.cedar_typing.specs.Views.EnvironmentChecks.{checker_of, template_in, condition_in, checks_left}
use Rattle.cedar_host.specs.Conditions.{env_in, IsOfCheck}
use Rattle.cedar_host.proofs.conditions.typed_conditions.Given as goal

-- each condition so far is the one of a check, and the environments of these and of the rest are all
abbrev pub invariant-loop-item : goal.invariant-loop-item
invariant-loop-item g l =
    let all : List Env = checked_envs (schema_of (schema_by l.fn.typechecker).now)
    (mode_by l.fn.typechecker) (template_of l.fn.policy) in
    (checker_of l.item-iterator ≡ l.fn.typechecker)
    × (template_in l.item-iterator ≡ l.fn.policy)
    × (condition_in l.item-iterator ≡ condition_of (template_of l.fn.policy))
    × IsPermutation (map env_in l.found.items ++ checks_left l.item-iterator) all
    × All (IsOfCheck (basis_of g.C.ArgumentCheck.refusal l.fn.typechecker) (template_of l.fn.policy))
    l.found.items
