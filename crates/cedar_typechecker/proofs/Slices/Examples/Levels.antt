-- The level errors of a policy, computed: in each environment those that the walk finds in the
-- condition that the check typed.
use Rattle.std.proofs.Common.{◌≡◌, ℕ, List, [], ◌∷◌, ◌⊎◌, inl, inr, refl, ap, ◌∙◌, subst}
use Rattle.std.specs.List.{flat_map}
use Rattle.cedar_types.specs.Errors.{Fault, Finding}
use Rattle.cedar_types.specs.Environments.Linking.{checked_envs}
use Rattle.cedar_types.specs.Environments.RequestEnvs.{Env}
use Rattle.cedar_types.specs.Templates.{PlainTemplate, condition_of}
use Rattle.cedar_typing.specs.Evaluation.Conformance.{IsOneOf}
use Rattle.cedar_typing.specs.PolicyCheck.{Verdict, succeeds, irrelevant, fails, SameVerdict, same_success, same_irrelevant, same_failure}
use Rattle.cedar_typing.specs.PolicyCheck.{policy_check}
use Rattle.cedar_typing.specs.Soundness.Policies.{Basis, setting_on}
use Rattle.cedar_typing.proofs.Basics.Gains.{in_either}
use Rattle.cedar_typing.proofs.Basics.Members.{in_flat}
use Rattle.cedar_typing.proofs.Policies.Check.{checked}
use Rattle.cedar_typing.proofs.Policies.Verdicts.{verdict_at_most}
use Rattle.cedar_typechecker.specs.Levels.Outcome.{ChecksOn, levels_on, IsErrorOfVerdict}
use Rattle.cedar_typechecker.specs.Levels.Setting.{LevelSetting}
use Rattle.cedar_typechecker.specs.Levels.Walk.{checked_errors}
use Rattle.cedar_typechecker.specs.Slices.Examples.{HasLevelError}
use Rattle.cedar_typechecker.specs.Slices.NeededPremises.Differing.{OnlyFaultIs}
use Rattle.cedar_typechecker.specs.Slices.NeededPremises.Levels.{SuccessesAreWithinLevel}
use Rattle.cedar_typechecker.specs.Slices.Policies.{PolicyIsWithinLevel}
use Rattle.cedar_typechecker.proofs.Levels.Walk.{walk_finds_errors}

-- ---- verdicts

abbrev verdict_errors : LevelSetting → Verdict → List Finding
verdict_errors s (succeeds x) = checked_errors s x
verdict_errors s (irrelevant es x) = checked_errors s x
verdict_errors s (fails es) = []

found : (s : LevelSetting) (v : Verdict) (e : Finding)
    → IsErrorOfVerdict s v e → IsOneOf e (verdict_errors s v)
found s (succeeds x) e h = (walk_finds_errors s x e).0 h
found s (irrelevant es x) e h = (walk_finds_errors s x e).0 h
found s (fails es) e h = h

is_error : (s : LevelSetting) (v : Verdict) (e : Finding)
    → IsOneOf e (verdict_errors s v) → IsErrorOfVerdict s v e
is_error s (succeeds x) e h = (walk_finds_errors s x e).1 h
is_error s (irrelevant es x) e h = (walk_finds_errors s x e).1 h
is_error s (fails es) e h = h

-- two verdicts that are the same have the same errors, and if one is a success, so is the other
same_error : (s : LevelSetting) (u v : Verdict) → SameVerdict u v → (e : Finding)
    → IsErrorOfVerdict s v e → IsErrorOfVerdict s u e
same_error s u v same_success e h = h
same_error s u v (same_irrelevant p) e h = h
same_error s u v (same_failure p) e h = h

abbrev pub IsSuccess : Verdict → Type 0
IsSuccess (succeeds x) = Unit {0}
IsSuccess (irrelevant es x) = ⊥
IsSuccess (fails es) = ⊥

same_success_too : (u v : Verdict) → SameVerdict u v → IsSuccess v → IsSuccess u
same_success_too u v same_success h = h
same_success_too u v (same_irrelevant p) h = h
same_success_too u v (same_failure p) h = h

-- ---- faults

-- each finding has this fault
abbrev pub AllHaveFault : Fault → List Finding → Type 0
AllHaveFault f [] = Unit {0}
AllHaveFault f (e ∷ es) = (e.fault ≡ f) × AllHaveFault f es

has_fault_of : (f : Fault) (es : List Finding) → AllHaveFault f es
    → (e : Finding) → IsOneOf e es → e.fault ≡ f
has_fault_of f [] h e i = absurd i
has_fault_of f (x ∷ xs) h e (inl q) = ap (λ z. z.fault) q ∙ h.0
has_fault_of f (x ∷ xs) h e (inr i) = has_fault_of f xs h.1 e i

-- ---- policies

module _ (b : Basis) (t : PlainTemplate) where
  abbrev pub verdict_in : Env → Verdict
  verdict_in env = policy_check (setting_on b t.id env) (condition_of t)

  same_verdict : (env : Env) (v : Verdict) → ChecksOn b t env v → SameVerdict (verdict_in env) v
  same_verdict env v c =
      let s = setting_on b t.id env in
      verdict_at_most s (condition_of t) (verdict_in env) v (checked s (condition_of t)) c

  -- no check in these environments succeeds
  abbrev pub NoneSucceeds : List Env → Type 0
  NoneSucceeds [] = Unit {0}
  NoneSucceeds (env ∷ envs) = (IsSuccess (verdict_in env) → ⊥) × NoneSucceeds envs

  none_of : (envs : List Env) → NoneSucceeds envs → (env : Env) → IsOneOf env envs
      → IsSuccess (verdict_in env) → ⊥
  none_of [] n env i h = i
  none_of (x ∷ envs) n env (inl q) h = n.0 (subst (λ e. IsSuccess (verdict_in e)) q h)
  none_of (x ∷ envs) n env (inr i) h = none_of envs n.1 env i h

  -- if no check succeeds, then no success has level errors
  pub no_success : (n : ℕ) → NoneSucceeds (checked_envs b.schema b.mode t)
      → SuccessesAreWithinLevel b t n
  no_success n f env i x c e h =
      let same = same_verdict env (succeeds x) c in
      let succeeds_too = same_success_too (verdict_in env) (succeeds x) same tt in
      absurd (none_of (checked_envs b.schema b.mode t) f env i succeeds_too)

  module _ (n : ℕ) where
    abbrev errors_in : Env → List Finding
    errors_in env = verdict_errors (levels_on b t n env) (verdict_in env)

    -- the level errors of all environments in which the policy is checked
    abbrev pub level_findings : List Finding
    level_findings = flat_map errors_in (checked_envs b.schema b.mode t)

    is_found : (env : Env) → IsOneOf env (checked_envs b.schema b.mode t)
        → (v : Verdict) → ChecksOn b t env v
        → (e : Finding) → IsErrorOfVerdict (levels_on b t n env) v e → IsOneOf e level_findings
    is_found env i v c e h =
        let s = levels_on b t n env in
        in_flat errors_in e env (checked_envs b.schema b.mode t) i
        (found s (verdict_in env) e (same_error s (verdict_in env) v (same_verdict env v c) e h))

    from_some : (envs : List Env) (e : Finding) → IsOneOf e (flat_map errors_in envs)
        → (env : Env) × IsOneOf env envs × IsOneOf e (errors_in env)
    from_some [] e h = absurd h
    from_some (env ∷ envs) e h =
        by (in_either e (errors_in env) (flat_map errors_in envs) h) (from_some envs e)
      where
        by : IsOneOf e (errors_in env) ⊎ IsOneOf e (flat_map errors_in envs)
            → (IsOneOf e (flat_map errors_in envs)
            → (env' : Env) × IsOneOf env' envs × IsOneOf e (errors_in env'))
            → (env' : Env) × IsOneOf env' (env ∷ envs) × IsOneOf e (errors_in env')
        by (inl i) later = (env, inl refl, i)
        by (inr i) later = let l = later i in (l.0, inr l.1, l.2)

    -- a policy without such errors is within the level
    pub within : level_findings ≡ [] → PolicyIsWithinLevel b t n
    within none env i v c e h = subst (λ xs. IsOneOf e xs) none (is_found env i v c e h)

    pub has_error : (f : Fault) (e : Finding) → IsOneOf e level_findings → e.fault ≡ f
        → HasLevelError b t n f
    has_error f e i q =
        let l = from_some (checked_envs b.schema b.mode t) e i in (
          l.0,
          l.1,
          verdict_in l.0,
          checked (setting_on b t.id l.0) (condition_of t),
          e,
          is_error (levels_on b t n l.0) (verdict_in l.0) e l.2,
          q,
        )

    -- a policy has only this fault if one error has it, and so have all others
    pub only : (f : Fault) (e : Finding) → IsOneOf e level_findings → e.fault ≡ f
        → AllHaveFault f level_findings → OnlyFaultIs b t n f
    only f e i q h = record {
      there = has_error f e i q;
      alone = λ env j v c d k. has_fault_of f level_findings h d (is_found env j v c d k);
    }
