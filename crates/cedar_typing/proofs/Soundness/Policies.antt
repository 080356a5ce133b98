-- A policy that passes does not go wrong, and one that is warned to be impossible is never true:
-- both follow from the outcome of the policy's check.
use Rattle.std.proofs.Common.{◌≡◌, ◌⊎◌, inl, inr, Bool, true, false, cond, List, [], ◌∷◌, None, refl, subst}
use Rattle.std.specs.Prelude.{IsPermutation}
use Rattle.cedar_types.specs.Errors.{Finding, Warning}
use Rattle.cedar_types.specs.Extensions.Functions.{table_fault}
use Rattle.cedar_types.specs.Environments.Linking.{checked_envs}
use Rattle.cedar_types.specs.Environments.RequestEnvs.{Env, Undeclared}
use Rattle.cedar_types.specs.Schemas.{has_fault}
use Rattle.cedar_types.specs.Templates.{PlainTemplate, condition_of}
use Rattle.cedar_types.specs.declared.base.types.BoolType.TheVariants.{False}
use Rattle.cedar_types.specs.Types.{Ty, TBool}
use Rattle.cedar_typing.specs.Capabilities.{Caps, no_caps}
use Rattle.cedar_typing.specs.Composition.{SlotsInScopeAlone, in_env, own_env, IsFaultless, IsIrrelevant, IsIrrelevantInAll}
use Rattle.cedar_typing.specs.Evaluation.Conformance.{IsOneOf, ConformingRequest, has_external}
use Rattle.cedar_typing.specs.Evaluation.Eval.{eval}
use Rattle.cedar_typing.specs.Evaluation.World.{World}
use Rattle.cedar_typing.specs.Modes.{IsSoundMode, IsFormedFor}
use Rattle.cedar_typing.specs.PolicyCheck.{Verdict, succeeds, irrelevant, fails, PolicyChecks, SameVerdict, same_success, same_irrelevant}
use Rattle.cedar_typing.specs.PolicyCheck.{same_failure}
use Rattle.cedar_typing.specs.PolicyCheck.Outcome.{Adds, VerdictsOf, is_irrelevant, all_irrelevant, impossible, warnings_of, PolicyOutcome}
use Rattle.cedar_typing.specs.Soundness.Policies.{Basis, IsNamedBySchema, IsWellFormed, IsConforming, setting_on, CheckedOn}
use Rattle.cedar_typing.specs.Soundness.Policies.{PromisesAreKept}
use Rattle.cedar_typing.specs.Rules.{rules, Derives}
use Rattle.cedar_typing.specs.Setting.{Setting}
use Rattle.cedar_typing.specs.Silence.{IsWellNamedTemplate, IsDerivedAs, IsDerivedIn}
use Rattle.cedar_typing.specs.Soundness.PolicyCheck.{IsBooleanOrAllowed}
use Rattle.cedar_typing.specs.Soundness.{IsTrueOutcome}
use Rattle.cedar_typing.specs.TypeTests.{accepts, bool_types}
use Rattle.cedar_typing.specs.TypedExpr.{Source, TypedTree}
use Rattle.cedar_typing.proofs.Composition.Links.{own_env_is_checked}
use Rattle.cedar_typing.proofs.Composition.NeverTrue.{never_true, own_sounds, own_kept}
use Rattle.cedar_typing.proofs.Composition.OwnBinding.{own_world}
use Rattle.cedar_typing.proofs.Policies.EachEnvironment.{each_has_passing}
use Rattle.cedar_typing.proofs.Basics.Gains.{in_either}
use Rattle.cedar_typing.proofs.Silence.Policies.{passing_policy_is_derived}
use Rattle.cedar_typing.proofs.Soundness.Parts.{Sounds}
use Rattle.cedar_typing.proofs.Soundness.PolicyCheck.{boolean}
use Rattle.cedar_typing.proofs.Policies.Verdicts.{verdict_at_most}

-- ---- a derived condition is a boolean or fails in an allowed way

module _ (s : Setting) (e : Source) (world : World) (sound : Sounds world (eval world e) (rules s e no_caps 1)) where
  typed_outcome : (t : Ty) (c : Caps) (x : TypedTree) → Derives s e no_caps 1 t c x → accepts bool_types t ≡ true
      → IsBooleanOrAllowed (eval world e)
  typed_outcome t c x d a =
      let q = sound.derivations t c x d in
      (q.safe refl, boolean t a (eval world e) q.typed)

  derived_outcome : (v : Verdict) → IsDerivedAs s e v → IsBooleanOrAllowed (eval world e)
  derived_outcome (succeeds x) (t, c, d, a, n) = typed_outcome t c x d a
  derived_outcome (irrelevant es x) (c, d) = typed_outcome (TBool False) c x d refl
  derived_outcome (fails es) h = absurd h

-- ---- the warning

nothing_new : (t : PlainTemplate) (b : Bool) → IsOneOf (impossible t) (cond b (impossible t ∷ []) []) → b ≡ true
nothing_new t true h = refl
nothing_new t false h = absurd h

-- the warning is new only if all verdicts are irrelevant
due : (t : PlainTemplate) (vs : List Verdict) (old new : List Warning) → Adds old (warnings_of t vs) new
    → (IsOneOf (impossible t) old → ⊥) → IsOneOf (impossible t) new → all_irrelevant vs ≡ true
due t vs old new a absent there = from (in_either (impossible t) old (warnings_of t vs) ((a (impossible t)).0 there))
  where
    from : IsOneOf (impossible t) old ⊎ IsOneOf (impossible t) (warnings_of t vs) → all_irrelevant vs ≡ true
    from (inl h) = absurd (absent h)
    from (inr h) = nothing_new t (all_irrelevant vs) h

-- the policy is warned to be impossible if there was no warning and there is one now: a caller sees
-- only that there is some warning
pub warned_impossible : {Checks : Env → Verdict → Type 0} {envs : List Env} {passes : Bool}
    {errors errors' : List Finding} (t : PlainTemplate) (old new : List Warning)
    → PolicyOutcome Checks envs t passes errors errors' old new → old ≡ [] → (w : Warning) → IsOneOf w new → IsOneOf (impossible t) new
warned_impossible t old new o none w there =
    let Added : List Warning → Type 0 = λ xs. Adds xs (warnings_of t o.verdicts) new in
    let added = subst Added none o.warnings_added in
    (added (impossible t)).1 (any (all_irrelevant o.verdicts) ((added w).0 there))
  where
    any : (b : Bool) → IsOneOf w (cond b (impossible t ∷ []) []) → IsOneOf (impossible t) (cond b (impossible t ∷ []) [])
    any true h = inl refl
    any false h = absurd h

irrelevant_too : (u v : Verdict) → SameVerdict u v → is_irrelevant u ≡ true → IsIrrelevant v
irrelevant_too u v same_success h = cc
irrelevant_too u v (same_irrelevant p) h = tt
irrelevant_too u v (same_failure p) h = cc

-- ---- the promises

module _ (b : Basis) (t : PlainTemplate) (schema : has_fault b.schema ≡ false)
    (formed : IsFormedFor b.mode b.schema) (functions : table_fault b.table.functions ≡ None)
    (mode : IsSoundMode b.mode) (closed : has_external b.schema ≡ false) where
  -- the setting, whose environment does not matter
  abbrev s : Setting
  s = setting_on b t.id Undeclared

  abbrev Checks : Env → Verdict → Type 0
  Checks env = PolicyChecks (in_env s env) (condition_of t)

  faultless : IsFaultless s
  faultless = record { mode = mode; schema = schema; formed = formed; functions = functions; closed = closed }

  -- a condition that is derived in each environment is a boolean or fails in an allowed way, in any
  -- world of the request
  safe_if_derived : (world : World) → IsWellFormed t world.slots → IsConforming b world
      → ((env : Env) → IsOneOf env (checked_envs b.schema b.mode t) → IsDerivedIn s t env)
      → IsBooleanOrAllowed (eval world (condition_of t))
  safe_if_derived world w i derived = by i.request
    where
      by : ConformingRequest b.schema world.request → IsBooleanOrAllowed (eval world (condition_of t))
      by (d, one, fits) =
          let own : Setting = in_env s (own_env t d) in
          let known = derived (own_env t d) (own_env_is_checked b.schema b.mode t w.slots_in_scope d one) in
          own_kept s t faultless d one world fits i.store i.functions w.slots_in_scope w.bound
          (derived_outcome own (condition_of t) (own_world world)
          (own_sounds s t faultless d one world fits i.store i.functions) known.0 known.2)

  irrelevant_in_all : (listed : List Env) (vs : List Verdict)
      → IsPermutation listed (checked_envs b.schema b.mode t) → VerdictsOf Checks listed vs
      → all_irrelevant vs ≡ true → IsIrrelevantInAll s t
  irrelevant_in_all listed vs p c h env one v k =
      let u = each_has_passing Checks is_irrelevant listed (checked_envs b.schema b.mode t) vs p c h env one in
      irrelevant_too u.0 v (verdict_at_most (in_env s env) (condition_of t) u.0 v u.1 k) u.2

  module _ (passes : Bool) (errors errors' : List Finding) (old new : List Warning) (o : CheckedOn b t passes errors errors' old new) where
    safe_in : passes ≡ true → IsNamedBySchema b.schema t → (world : World) → IsWellFormed t world.slots
        → IsConforming b world → IsBooleanOrAllowed (eval world (condition_of t))
    safe_in h n world w i =
        let P : Bool → Type 0 = λ x. CheckedOn b t x errors errors' old new in
        let names : IsWellNamedTemplate b.schema t = record { unknowns = w.no_unknowns; types = n.types; actions = n.actions } in
        safe_if_derived world w i
        (passing_policy_is_derived s t (record { mode = mode; schema = schema; formed = formed; functions = functions })
        names errors errors' old new (subst P h o))

    never_in : (IsOneOf (impossible t) old → ⊥) → IsOneOf (impossible t) new → SlotsInScopeAlone t → (world : World)
        → IsConforming b world → IsTrueOutcome (eval world (condition_of t)) → ⊥
    never_in absent there alone world i =
        never_true s t faultless alone
        (irrelevant_in_all o.listed o.verdicts o.in_some_order o.checked (due t o.verdicts old new o.warnings_added absent there))
        world i.request i.store i.functions

pub promises_are_kept : PromisesAreKept
promises_are_kept b t schema formed functions passes errors errors' old new o = record {
  safe = λ h k. safe_in b t schema formed functions k.mode k.closed passes errors errors' old new o h;
  never_true = λ absent there k. never_in b t schema formed functions k.mode k.closed passes errors errors' old new o absent there;
}
