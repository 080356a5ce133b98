use Rattle.std.proofs.Common.{◌≡◌, map}
use Rattle.std.specs.List.{flat_map}
use Rattle.cedar_types.specs.Names.{uid_of}
use Rattle.cedar_types.specs.Schemas.Contents.{schema_of}
use Rattle.cedar_types.specs.Templates.{PlainTemplate}
use Rattle.cedar_typing.specs.Soundness.Policies.{Basis}
use Rattle.cedar_typechecker.specs.declared.survey.Survey.{Survey}
use Rattle.cedar_typechecker.specs.Surveyed.{AreChecksOn, TakesIn, admitted_by, envs_named}
use Rattle.cedar_typechecker.proofs.survey.Survey.take_in_actions.Given as goal

-- a survey that takes in those of the actions that are left has taken in all
abbrev pub invariant-loop-action : goal.invariant-loop-action
invariant-loop-action g l =
    (l.self.policy_id ≡ l.fn.self.policy_id)
    × ((b : Basis) (t : PlainTemplate) → AreChecksOn g.C.ArgumentCheck.refusal l.fn.checks l.fn.scope.schema.now b t
    → (new : Survey)
    → TakesIn b t l.self new (flat_map (envs_named (schema_of l.fn.scope.schema.now).actions) (map uid_of l.action-iterator))
    → TakesIn b t l.fn.self new (flat_map (envs_named (schema_of l.fn.scope.schema.now).actions) (admitted_by l.fn.scope)))
