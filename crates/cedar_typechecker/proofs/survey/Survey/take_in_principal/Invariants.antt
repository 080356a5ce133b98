use Rattle.std.proofs.Common.{◌≡◌, map}
use Rattle.cedar_types.specs.Environments.{principal_environments}
use Rattle.cedar_types.specs.Environments.RequestEnvs.{unlinked}
use Rattle.cedar_types.specs.Names.{type_of, uid_of}
use Rattle.cedar_types.specs.Templates.{PlainTemplate}
use Rattle.cedar_types.specs.Types.{types_of, ty_of}
use Rattle.cedar_typing.specs.Soundness.Policies.{Basis}
use Rattle.cedar_typechecker.specs.declared.survey.Survey.{Survey}
use Rattle.cedar_typechecker.specs.Surveyed.{AreChecksOn, TakesIn}
use Rattle.cedar_typechecker.proofs.survey.Survey.take_in_principal.Given as goal

-- a survey that takes in those of the resource types that are left has taken in all
abbrev pub invariant-loop-resource : goal.invariant-loop-resource
invariant-loop-resource g l =
    (l.self.policy_id ≡ l.fn.self.policy_id)
    × ((b : Basis) (t : PlainTemplate) → AreChecksOn g.C.ArgumentCheck.refusal l.fn.checks l.fn.schema b t
    → (new : Survey)
    → TakesIn b t l.self new (map unlinked (principal_environments (uid_of l.fn.action)
    (ty_of l.fn.applies_to.context.value) (map type_of l.resource-iterator) (type_of l.fn.principal)))
    → TakesIn b t l.fn.self new (map unlinked (principal_environments (uid_of l.fn.action)
    (ty_of l.fn.applies_to.context.value) (types_of l.fn.applies_to.resource_apply_spec) (type_of l.fn.principal))))
