use Rattle.std.proofs.Common.{◌∙◌}
use Rattle.cedar_types.specs.Environments.RequestEnvs.{envs_left}
use Rattle.cedar_types.proofs.Schema.KeptEnvironments.{all_left, tells_partial}
use Rattle.cedar_types.proofs.base.schema.ValidatorSchema.unlinked_request_envs.Goals as goal

pub returns : goal.returns
unfolding envs_left
returns c = all_left c.args.self.now c.deref.result.now c.eq.result _ c.deref.ensures.value (c.eq.ensures ∙ tells_partial c.args.mode)
