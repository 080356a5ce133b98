-- Conclusions from the check in the own environment for each world of the request.
use Rattle.std.proofs.Common.{◌≡◌, Bool, true, false, true≢false, Some, refl, sym}
use Rattle.cedar_types.specs.declared.base.names.slots.SlotId.{SlotId}
use Rattle.cedar_types.specs.declared.base.types.BoolType.TheVariants.{False}
use Rattle.cedar_types.specs.Types.{TBool}
use Rattle.cedar_types.specs.Types.Bounds.{is_strict}
use Rattle.cedar_types.specs.Names.{Path, Uid}
use Rattle.cedar_typing.specs.Capabilities.{no_caps}
use Rattle.cedar_typing.specs.Rules.{rules}
use Rattle.cedar_types.specs.Environments.{DeclaredEnv, environments_of}
use Rattle.cedar_types.specs.Templates.{PlainTemplate, condition_of}
use Rattle.cedar_types.specs.Values.{VBool}
use Rattle.cedar_types.specs.Values.Stores.{ConformingStore}
use Rattle.cedar_types.specs.Environments.Linking.{has_slot}
use Rattle.cedar_typing.specs.Composition.{in_env, SlotsInScopeAlone, own_link, own_env, IsFaultless, IsIrrelevant}
use Rattle.cedar_typing.specs.Composition.{NeverTrue, OwnSuccessIsKept}
use Rattle.cedar_typing.specs.Evaluation.Conformance.{IsOneOf, FitsRequest, FitsSlot, KeepsTable}
use Rattle.cedar_typing.specs.Evaluation.Conformance.{SlotsBound}
use Rattle.cedar_typing.specs.Evaluation.Eval.{eval}
use Rattle.cedar_typing.specs.Evaluation.World.{World, Outcome, Gives, Fails}
use Rattle.cedar_typing.specs.PolicyCheck.{Verdict, succeeds, irrelevant, fails, PolicyChecks, policy_check}
use Rattle.cedar_typing.specs.Setting.{Setting, table}
use Rattle.cedar_typing.specs.Soundness.PolicyCheck.{IsBooleanOrAllowed, Promises}
use Rattle.cedar_typing.specs.Soundness.{HasFound, IsTrueOutcome, IsWorldOf}
use Rattle.cedar_typing.proofs.Policies.Check.{checked}
use Rattle.cedar_typing.proofs.Soundness.Capabilities.{hold_none}
use Rattle.cedar_typing.proofs.Soundness.Induction.{sounds}
use Rattle.cedar_typing.proofs.Soundness.Parts.{Sounds}
use Rattle.cedar_typing.proofs.Soundness.PolicyCheck.{promised}
use Rattle.cedar_typing.proofs.Composition.Links.{own_env_is_checked}
use Rattle.cedar_typing.proofs.Composition.Slots.{slots_bound}
use Rattle.cedar_typing.proofs.Composition.OwnBinding.{own_slots, both_bound, own_world, IsAtMost, itself, is_false, unlinked}
use Rattle.cedar_typing.proofs.Composition.OwnBinding.{condition_most}

-- ---- outcomes

-- an outcome that is at most another is true only if the other is
pub true_most : (U : Type 0) (o o' : Outcome) → IsAtMost U o o' → IsTrueOutcome o → IsTrueOutcome o'
true_most U o o' itself h = h
true_most U o o' is_false h = absurd (true≢false (sym h))
true_most U o o' (unlinked u) h = absurd h

-- an outcome that is at most another has the type False if the other has it
pub found_most : (o o' : Outcome) → IsAtMost ⊥ o o'
    → HasFound (Some (TBool False)) o' → HasFound (Some (TBool False)) o
found_most o o' itself h = h
found_most o o' is_false h = refl
found_most o o' (unlinked u) h = absurd u

-- an outcome that is at most another is a boolean or an allowed failure if the other is
pub kept_most : (o o' : Outcome) → IsAtMost ⊥ o o' → IsBooleanOrAllowed o' → IsBooleanOrAllowed o
kept_most o o' itself h = h
kept_most o o' is_false h = (tt, tt)
kept_most o o' (unlinked u) h = absurd u

not_true : (v : Verdict) (o : Outcome) → IsIrrelevant v → Promises v o → IsTrueOutcome o → ⊥
not_true (irrelevant es x) (Gives (VBool true)) i h k = true≢false (sym h)
not_true (irrelevant es x) (Gives (VBool false)) i h k = true≢false (sym k)
not_true (irrelevant es x) (Gives v) i h k = k
not_true (irrelevant es x) (Fails f) i h k = k
not_true (succeeds x) o i h k = i
not_true (fails es) o i h k = i

-- ---- the own environment, and the world with own slots

-- an own slot fits its variable's own entity, linked or not
pub own_fits : (b : Bool) (own : Path) (u : Uid) → u.entity_type ≡ own → FitsSlot (own_link b own) (Some u)
own_fits true own u e = e
own_fits false own u e = tt

module _ (s : Setting) (t : PlainTemplate) (f : IsFaultless s) (d : DeclaredEnv)
    (one : IsOneOf d (environments_of s.env.schema.actions))
    (world : World) (fits : FitsRequest d world.request) (store : ConformingStore s.env.schema world.store)
    (keeps : KeepsTable (table s) world.functions) where
  pub own_is_world : IsWorldOf (in_env s (own_env t d)) (own_world world)
  own_is_world = record {
    environment = (
      fits,
      own_fits (has_slot SlotId.Principal t) d.principal world.request.principal fits.principal,
      own_fits (has_slot SlotId.Resource t) d.resource world.request.resource fits.resource,
    );
    store = store;
    functions = keeps;
  }

  pub own_bound : SlotsBound (own_slots world.request) (condition_of t)
  own_bound = slots_bound (own_slots world.request) (both_bound world.request) (condition_of t)

  -- typing in the own environment is sound in the world with own slots
  pub own_sounds : Sounds (own_world world) (eval (own_world world) (condition_of t))
      (rules (in_env s (own_env t d)) (condition_of t) no_caps 1)
  own_sounds =
      sounds (is_strict s.env.mode) (in_env s (own_env t d)) (own_world world) refl f.mode f.formed f.schema f.functions
      f.closed one own_is_world.environment store keeps (condition_of t) own_bound no_caps 1
      (hold_none (own_world world))

  -- the check in the own environment keeps its promise in the world with own slots
  own_promise : (v : Verdict) → PolicyChecks (in_env s (own_env t d)) (condition_of t) v
      → Promises v (eval (own_world world) (condition_of t))
  own_promise v c = promised (in_env s (own_env t d)) (condition_of t) (own_world world) own_sounds v c

  -- a condition that is irrelevant in the own environment is never true
  own_never : SlotsInScopeAlone t → (v : Verdict) → IsIrrelevant v
      → PolicyChecks (in_env s (own_env t d)) (condition_of t) v → IsTrueOutcome (eval world (condition_of t)) → ⊥
  own_never h v i c k =
      let U : Type 0 = Unit {0} in
      not_true v (eval (own_world world) (condition_of t)) i (own_promise v c)
      (true_most U (eval world (condition_of t)) (eval (own_world world) (condition_of t)) (condition_most U world t h (λ n. tt)) k)

  -- a condition that is a boolean or an allowed failure with own slots is one in the given world,
  -- if the slots are bound there
  pub own_kept : SlotsInScopeAlone t → SlotsBound world.slots (condition_of t)
      → IsBooleanOrAllowed (eval (own_world world) (condition_of t))
      → IsBooleanOrAllowed (eval world (condition_of t))
  own_kept h b =
      kept_most (eval world (condition_of t)) (eval (own_world world) (condition_of t)) (condition_most ⊥ world t h (λ n. n b))

pub never_true : NeverTrue
never_true s t f h all world (d, one, fits) store keeps k =
    let own : Setting = in_env s (own_env t d) in
    let c : PolicyChecks own (condition_of t) (policy_check own (condition_of t)) = checked own (condition_of t) in
    let v : Verdict = policy_check own (condition_of t) in
    own_never s t f d one world fits store keeps h v
    (all (own_env t d) (own_env_is_checked s.env.schema s.env.mode t h d one) v c) c k

pub own_success_is_kept : OwnSuccessIsKept
own_success_is_kept s t f h d one x c world fits store keeps b =
    own_kept s t f d one world fits store keeps h b (own_promise s t f d one world fits store keeps (succeeds x) c)
