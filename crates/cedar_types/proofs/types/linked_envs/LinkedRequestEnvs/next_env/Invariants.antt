use Rattle.std.proofs.Common.{◌≡◌, length}
use Rattle.cedar_types.specs.Environments.LinkViews.{linked_to_come}
use Rattle.cedar_types.specs.Environments.RequestEnvs.{envs_left}
use Rattle.cedar_types.proofs.types.linked_envs.LinkedRequestEnvs.next_env.Given as goal

abbrev pub decreases-loop-env : goal.decreases-loop-env
decreases-loop-env l = length (envs_left l.self.unlinked)

abbrev pub invariant-loop-env : goal.invariant-loop-env
invariant-loop-env l =
    (linked_to_come l.self ≡ linked_to_come l.initial.self)
    × (l.self.ended ≡ l.initial.self.ended)
