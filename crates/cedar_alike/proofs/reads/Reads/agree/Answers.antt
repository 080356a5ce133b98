use Rattle.cedar_types.specs.Environments.RequestEnvs.{env_of}
use Rattle.cedar_alike.proofs.Alike.Flags.{agree_by_tests}
use Rattle.cedar_alike.proofs.Alike.Laws.{agreement_is_enough}
use Rattle.cedar_alike.proofs.reads.Reads.agree.Goals as goal

pub returns-clause-exact : goal.returns-clause-exact
returns-clause-exact c =
    agree_by_tests c.args.self.now (env_of c.args.one.now) (env_of c.args.other.now) _ _ _ _ _ _ c.variable_agrees-principal.ensures
    c.variable_agrees-action.ensures c.variable_agrees-resource.ensures c.variable_agrees-context.ensures c.slot_agrees-principal_slot.ensures c.slot_agrees-resource_slot.ensures

pub returns-clause-once : goal.returns-clause-once
returns-clause-once c e are h =
    let exact =
    agree_by_tests c.args.self.now (env_of c.args.one.now) (env_of c.args.other.now) _ _ _ _ _ _ c.variable_agrees-principal.ensures
    c.variable_agrees-action.ensures c.variable_agrees-resource.ensures c.variable_agrees-context.ensures c.slot_agrees-principal_slot.ensures c.slot_agrees-resource_slot.ensures e are in
    λ s. agreement_is_enough s (env_of c.args.one.now) (env_of c.args.other.now) e (exact.0 h)
