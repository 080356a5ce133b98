-- The typed conditions that the checks of a policy hand out mean its condition.
use Rattle.std.proofs.Common.{◌≡◌, false, None, refl}
use Rattle.cedar_types.specs.Environments.{DeclaredEnv, environments_of}
use Rattle.cedar_types.specs.Environments.Linking.{checked_envs}
use Rattle.cedar_types.specs.Environments.RequestEnvs.{Env, Undeclared}
use Rattle.cedar_types.specs.Extensions.Functions.{table_fault}
use Rattle.cedar_types.specs.Schemas.{has_fault}
use Rattle.cedar_types.specs.Templates.{PlainTemplate, condition_of}
use Rattle.cedar_types.specs.Types.Bounds.{is_strict}
use Rattle.cedar_typing.specs.Composition.{SlotsInScopeAlone, in_env, own_env, IsFaultless}
use Rattle.cedar_typing.specs.Evaluation.Conformance.{IsOneOf, FitsRequest, ConformingRequest, has_external}
use Rattle.cedar_typing.specs.Evaluation.World.{World}
use Rattle.cedar_typing.specs.Modes.{IsSoundMode, IsFormedFor}
use Rattle.cedar_typing.specs.Setting.{Setting}
use Rattle.cedar_typing.specs.Soundness.Policies.{Basis, IsConforming, setting_on}
use Rattle.cedar_typing.proofs.Composition.Links.{own_env_is_checked}
use Rattle.cedar_typing.proofs.Composition.NeverTrue.{own_is_world}
use Rattle.cedar_typing.proofs.Composition.OwnBinding.{own_slots, own_world, both_bound}
use Rattle.cedar_typing.proofs.Composition.Slots.{slots_bound}
use Rattle.cedar_typing.proofs.Soundness.Induction.{sounds}
use Rattle.cedar_typing.specs.TypedCopies.Policies.{MeansTheSameOn, ConditionsMeanTheSame}
use Rattle.cedar_typing.proofs.TypedCopies.Laws.{verdict_means_the_same, checks_mean_the_same}
use Rattle.cedar_typing.proofs.TypedCopies.Own.{condition_copies}

module _ (b : Basis) (t : PlainTemplate) (schema : has_fault b.schema ≡ false)
    (formed : IsFormedFor b.mode b.schema) (functions : table_fault b.table.functions ≡ None)
    (mode : IsSoundMode b.mode) (closed : has_external b.schema ≡ false)
    (alone : SlotsInScopeAlone t) (world : World) (i : IsConforming b world) where
  -- the setting, whose environment does not matter
  abbrev s : Setting
  s = setting_on b t.id Undeclared

  faultless : IsFaultless s
  faultless = record { mode = mode; schema = schema; formed = formed; functions = functions; closed = closed }

  in_own : (d : DeclaredEnv) → IsOneOf d (environments_of b.schema.actions) → FitsRequest d world.request
      → MeansTheSameOn b t (own_env t d) world
  in_own d one fits =
      verdict_means_the_same (in_env s (own_env t d)) (condition_of t) world
      (condition_copies s t d world
      (λ e prior k h.
      sounds (is_strict b.mode) (in_env s (own_env t d)) (own_world world) refl mode formed schema functions closed one
      (own_is_world s t faultless d one world fits i.store i.functions).environment i.store i.functions e
      (slots_bound (own_slots world.request) (both_bound world.request) e) prior k h)
      alone)

  in_some : (env : Env) × IsOneOf env (checked_envs b.schema b.mode t) × MeansTheSameOn b t env world
  in_some = by i.request
    where
      by : ConformingRequest b.schema world.request
          → (env : Env) × IsOneOf env (checked_envs b.schema b.mode t) × MeansTheSameOn b t env world
      by (d, one, fits) = (own_env t d, own_env_is_checked b.schema b.mode t alone d one, in_own d one fits)

pub conditions_mean_the_same : ConditionsMeanTheSame
conditions_mean_the_same b t schema formed functions = record {
  fitting = λ k env one world w v c.
      checks_mean_the_same (setting_on b t.id env) (condition_of t) v schema formed functions c
      (record { mode = k.mode; closed = k.closed; environment = one }) world w;
  own = λ k alone world i. in_own b t schema formed functions k.mode k.closed alone world i;
  some = λ k alone world i. in_some b t schema formed functions k.mode k.closed alone world i;
}
