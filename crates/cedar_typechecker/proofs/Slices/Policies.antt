-- A policy that passes, and has no level error, evaluates over a part of a store as over the whole
-- store.
use Rattle.std.proofs.Common.{◌≡◌, ℕ, true, false, List, None, refl}
use Rattle.cedar_types.specs.Types.Bounds.{is_strict}
use Rattle.cedar_types.specs.Environments.{DeclaredEnv, environments_of}
use Rattle.cedar_types.specs.Errors.{Finding, Warning}
use Rattle.cedar_types.specs.Extensions.Functions.{table_fault}
use Rattle.cedar_types.specs.Environments.Linking.{checked_envs}
use Rattle.cedar_types.specs.Environments.RequestEnvs.{Env, Undeclared}
use Rattle.cedar_types.specs.Schemas.{has_fault}
use Rattle.cedar_types.specs.Values.Stores.{Store}
use Rattle.cedar_types.specs.Templates.{PlainTemplate, condition_of}
use Rattle.cedar_typing.specs.Composition.{in_env, own_env, IsFaultless}
use Rattle.cedar_typing.specs.Evaluation.Conformance.{IsOneOf, FitsRequest, ConformingRequest, SlotsBound, has_external}
use Rattle.cedar_typing.specs.Evaluation.World.{World}
use Rattle.cedar_typing.specs.Modes.{IsSoundMode, IsFormedFor}
use Rattle.cedar_typing.specs.PolicyCheck.{Verdict, SameVerdict, same_success, same_irrelevant, same_failure}
use Rattle.cedar_typing.specs.Soundness.Policies.{Basis, IsNamedBySchema, IsWellFormed, IsConforming, setting_on, CheckedOn}
use Rattle.cedar_typing.specs.Setting.{Setting}
use Rattle.cedar_typing.specs.Silence.{IsWithoutFaults, IsWellNamedTemplate, IsDerivedAs}
use Rattle.cedar_typing.specs.TypedExpr.{Source}
use Rattle.cedar_typing.proofs.Composition.Links.{own_env_is_checked}
use Rattle.cedar_typing.proofs.Composition.NeverTrue.{own_is_world}
use Rattle.cedar_typing.proofs.Composition.OwnBinding.{own_slots, own_world, both_bound}
use Rattle.cedar_typing.proofs.Composition.Slots.{slots_bound}
use Rattle.cedar_typing.proofs.Silence.Policies.{passing_policy_is_derived}
use Rattle.cedar_typing.proofs.Policies.Verdicts.{verdict_at_most}
use Rattle.cedar_typing.proofs.Soundness.Induction.{sounds}
use Rattle.cedar_typechecker.specs.Levels.Outcome.{ChecksOn, levels_on}
use Rattle.cedar_typechecker.specs.Slices.Policies.{VerdictIsWithin, PolicyIsWithinLevel, IsSameIn, IsSameInSlices, PassingNeedsSliceAlone}
use Rattle.cedar_typechecker.specs.Slices.Reach.{HoldsSlice}
use Rattle.cedar_typechecker.specs.Slices.TypedCopies.{VerdictMeansTheSameInPart, PassingCopyNeedsSliceAlone}
use Rattle.cedar_typechecker.proofs.Slices.Conditions.{linked, IsSameWhereLinked, IsSoundInOwn, derived_same, derived_copies}
use Rattle.cedar_typechecker.proofs.Slices.Expressions.{same_at}

module _ (b : Basis) (t : PlainTemplate) (schema : has_fault b.schema ≡ false)
    (formed : IsFormedFor b.mode b.schema) (functions : table_fault b.table.functions ≡ None)
    (mode : IsSoundMode b.mode) (closed : has_external b.schema ≡ false) where
  -- the setting, whose environment does not matter
  abbrev s : Setting
  s = setting_on b t.id Undeclared

  faultless : IsFaultless s
  faultless = record { mode = mode; schema = schema; formed = formed; functions = functions; closed = closed }

  without_faults : IsWithoutFaults s
  without_faults = record { mode = mode; schema = schema; formed = formed; functions = functions }

  module _ (n : ℕ) (world : World) (w : IsWellFormed t world.slots) (i : IsConforming b world) (part : Store)
      (holds : HoldsSlice world.request world.store n part) where
    bound : (e : Source) → SlotsBound (own_slots world.request) e
    bound = slots_bound (own_slots world.request) (both_bound world.request)

    module _ (d : DeclaredEnv) (one : IsOneOf d (environments_of b.schema.actions)) (fits : FitsRequest d world.request) where
      same_where_linked : IsSameWhereLinked s t d world n part holds
      same_where_linked e prior k h =
          same_at (is_strict b.mode) (linked s d) (own_world world) n part refl mode formed schema functions closed one tt
          (fits, fits.principal, fits.resource) i.store i.functions holds e (bound e) prior k h

      sound_in_own : IsSoundInOwn s t d world n part holds
      sound_in_own e prior k h =
          sounds (is_strict b.mode) (in_env s (own_env t d)) (own_world world) refl mode formed schema functions closed one
          (own_is_world s t faultless d one world fits i.store i.functions).environment i.store i.functions e (bound e) prior k h

      -- a condition that is derived in the own environment, and has no level error there, evaluates
      -- over the part as over the store
      in_own : (v : Verdict) → IsDerivedAs (setting_on b t.id (own_env t d)) (condition_of t) v
          → VerdictIsWithin (levels_on b t n (own_env t d)) v → IsSameIn t world part
      in_own =
          derived_same s t d world n part holds same_where_linked sound_in_own w.slots_in_scope w.bound

      -- the typed copies of such a condition do so too
      copies_in_own : (v : Verdict) → IsDerivedAs (setting_on b t.id (own_env t d)) (condition_of t) v
          → VerdictIsWithin (levels_on b t n (own_env t d)) v → VerdictMeansTheSameInPart world part (condition_of t) v
      copies_in_own =
          derived_copies s t d world n part holds same_where_linked sound_in_own w.slots_in_scope w.bound

    -- another verdict of the same check hands out the same copy
    of_same : (u v : Verdict) → SameVerdict u v → VerdictMeansTheSameInPart world part (condition_of t) u
        → VerdictMeansTheSameInPart world part (condition_of t) v
    of_same u v same_success h = h
    of_same u v (same_irrelevant p) h = h
    of_same u v (same_failure p) h = h

    same_if_known : ((env : Env) → IsOneOf env (checked_envs b.schema b.mode t)
        → (v : Verdict) × IsDerivedAs (setting_on b t.id env) (condition_of t) v × VerdictIsWithin (levels_on b t n env) v)
        → IsSameIn t world part
    same_if_known known = by i.request
      where
        by : ConformingRequest b.schema world.request → IsSameIn t world part
        by (d, one, fits) =
            let k = known (own_env t d) (own_env_is_checked b.schema b.mode t w.slots_in_scope d one) in
            in_own d one fits k.0 k.1 k.2

  suffices : (errors errors' : List Finding) (old new : List Warning) → CheckedOn b t true errors errors' old new
      → (n : ℕ) → IsNamedBySchema b.schema t → PolicyIsWithinLevel b t n
      → (world : World) → IsWellFormed t world.slots → IsConforming b world → IsSameInSlices t world n
  suffices errors errors' old new o n names quiet world w i part holds =
      let named : IsWellNamedTemplate b.schema t = record { unknowns = w.no_unknowns; types = names.types; actions = names.actions } in
      same_if_known n world w i part holds
      (λ env k.
      let p = passing_policy_is_derived s t without_faults named errors errors' old new o env k in
      (p.0, p.2, quiet env k p.0 p.1))

  copy_suffices : (errors errors' : List Finding) (old new : List Warning) → CheckedOn b t true errors errors' old new
      → (n : ℕ) → IsNamedBySchema b.schema t → PolicyIsWithinLevel b t n
      → (world : World) → IsWellFormed t world.slots → IsConforming b world
      → (d : DeclaredEnv) → IsOneOf d (environments_of b.schema.actions) → FitsRequest d world.request
      → (part : Store) → HoldsSlice world.request world.store n part
      → (v : Verdict) → ChecksOn b t (own_env t d) v → VerdictMeansTheSameInPart world part (condition_of t) v
  copy_suffices errors errors' old new o n names quiet world w i d one fits part holds v c =
      let named : IsWellNamedTemplate b.schema t = record { unknowns = w.no_unknowns; types = names.types; actions = names.actions } in
      let there = own_env_is_checked b.schema b.mode t w.slots_in_scope d one in
      let p = passing_policy_is_derived s t without_faults named errors errors' old new o (own_env t d) there in
      of_same n world w i part holds p.0 v (verdict_at_most (in_env s (own_env t d)) (condition_of t) p.0 v p.1 c)
      (copies_in_own n world w i part holds d one fits p.0 p.2 (quiet (own_env t d) there p.0 p.1))

-- ---- the laws

pub passing_copy_needs_slice_alone : PassingCopyNeedsSliceAlone
passing_copy_needs_slice_alone b t schema formed functions errors errors' old new o n k names quiet world w i d one fits
    part holds v c =
    copy_suffices b t schema formed functions k.mode k.closed errors errors' old new o n names quiet world w i d one fits
    part holds v c

pub passing_needs_slice_alone : PassingNeedsSliceAlone
passing_needs_slice_alone b t schema formed functions errors errors' old new o n k names quiet world w i =
    suffices b t schema formed functions k.mode k.closed errors errors' old new o n names quiet world w i
