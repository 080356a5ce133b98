-- Silence of the level pass is needed, and each of its errors counts. Each policy passes and has
-- one level fault at n, and evaluates over the slice of n steps otherwise than over the store.
use Rattle.std.specs.Prelude.{◌≡◌, ℕ, true, false, [], ◌∷◌, codes}
use Rattle.cedar_types.specs.declared.base.types.ValidationMode.{ValidationMode}
use Rattle.cedar_types.specs.Errors.{Fault, literal_dereference_target}
use Rattle.cedar_types.specs.Environments.Linking.{checked_envs}
use Rattle.cedar_types.specs.Environments.RequestEnvs.{Env}
use Rattle.cedar_types.specs.Templates.{PlainTemplate, condition_of}
use Rattle.cedar_types.specs.Expressions.Tree.{and}
use Rattle.cedar_types.specs.Values.{VBool}
use Rattle.cedar_types.specs.Values.Stores.{Store}
use Rattle.cedar_typing.specs.Evaluation.Conformance.{IsOneOf}
use Rattle.cedar_typing.specs.Evaluation.Eval.{eval}
use Rattle.cedar_typing.specs.Evaluation.World.{MissingEntity, Overflow, Outcome, Gives, Fails}
use Rattle.cedar_typing.specs.Examples.Expressions.{false_lit, one, the, principal, has, equal, less, too_great}
use Rattle.cedar_typing.specs.Examples.PolicySoundness.{Passes, PassesWarned, policy_when}
use Rattle.cedar_typing.specs.Examples.World.{alice}
use Rattle.cedar_typing.specs.PolicyCheck.{succeeds}
use Rattle.cedar_typing.specs.Soundness.Policies.{Basis}
use Rattle.cedar_typing.specs.TypedExpr.{TypedTree}
use Rattle.cedar_typechecker.specs.Levels.Errors.{exceeds, IsWithinLevel}
use Rattle.cedar_typechecker.specs.Levels.Outcome.{ChecksOn, levels_on}
use Rattle.cedar_typechecker.specs.Slices.Examples.{active_of, has_guide, resource, guided_page}
use Rattle.cedar_typechecker.specs.Slices.Examples.World.{dan, wiki_basis, stored_alice, reading, slice_of}
use Rattle.cedar_typechecker.specs.Slices.NeededPremises.Differing.{IsAskedIn, IsAskedPolicy, OnlyFaultIs, DiffersIn}
use Rattle.cedar_typechecker.specs.Slices.Policies.{IsSameIn, IsSameInSlices}
use Rattle.cedar_typechecker.specs.Slices.Reach.{HoldsSlice}
use Rattle.cedar_typechecker.specs.Slices.Soundness.{with_store}

-- a policy that passes, with this fault at n and no other, evaluates over the slice of n steps
-- otherwise than over the store
pub record OneFaultGoesWrongIn (m : ValidationMode) (Passed : Basis → PlainTemplate → Type 0)
    (t : PlainTemplate) (n : ℕ) (f : Fault) (in_part in_store : Outcome) : Type 0 where
  pub asked : IsAskedIn m (wiki_basis m) reading
  pub policy : IsAskedPolicy (wiki_basis m) t reading
  pub passes : Passed (wiki_basis m) t
  pub wrong : OnlyFaultIs (wiki_basis m) t n f
  pub held : HoldsSlice reading.request reading.store n (slice_of reading n)
  pub differs : DiffersIn t reading (slice_of reading n) in_part in_store

-- the maximum is 2, one less than the required level
abbrev pub OneLevelLessGoesWrongIn : ValidationMode → Type 0
OneLevelLessGoesWrongIn m =
    OneFaultGoesWrongIn m Passes guided_page 2 (exceeds 2 3)
    (Fails MissingEntity) (Gives (VBool true))

-- `User::"dan".active`; the request does not reach dan
abbrev pub dan_is_active : PlainTemplate
dan_is_active = policy_when (active_of (the dan))

abbrev pub LiteralTargetsGoWrongIn : ValidationMode → Type 0
LiteralTargetsGoWrongIn m =
    OneFaultGoesWrongIn m Passes dan_is_active 1 literal_dereference_target
    (Fails MissingEntity) (Gives (VBool true))

-- `principal.active && false`, which is False in each environment
abbrev pub never_active : PlainTemplate
never_active = policy_when (and tt (active_of principal) false_lit)

-- no environment in which the check succeeds has a level error; irrelevant ones do not count
abbrev pub SuccessesAreWithinLevel : Basis → PlainTemplate → ℕ → Type 0
SuccessesAreWithinLevel b t n =
    (env : Env) → IsOneOf env (checked_envs b.schema b.mode t)
    → (x : TypedTree) → ChecksOn b t env (succeeds x) → IsWithinLevel (levels_on b t n env) x

pub record IrrelevantEnvironmentsCountIn (m : ValidationMode) : Type 0 where
  pub goes_wrong : OneFaultGoesWrongIn m PassesWarned never_active 0 (exceeds 0 1)
      (Fails MissingEntity) (Gives (VBool false))
  pub others_within : SuccessesAreWithinLevel (wiki_basis m) never_active 0

-- ---- the promise is on one failure, and on each part

-- `principal.active == (9223372036854775807 + 1 < 1)`, which fails over each store
abbrev pub overflowing : PlainTemplate
overflowing = policy_when (equal (active_of principal) (less too_great one))

-- the policy fails over the store and over the slice, but not alike: over the store the sum is too
-- great, and over the slice the principal is missing
abbrev pub OneFailureIsNotAnotherIn : ValidationMode → Type 0
OneFailureIsNotAnotherIn m =
    OneFaultGoesWrongIn m Passes overflowing 0 (exceeds 0 1)
    (Fails MissingEntity) (Fails Overflow)

-- `(principal has profile) == resource.hasTag("guide")`
abbrev pub both_or_neither : PlainTemplate
both_or_neither =
    policy_when (equal (has principal (codes "profile")) (has_guide resource))

-- a part of the store that has alice alone
abbrev pub alice_alone : Store
alice_alone = (alice, stored_alice) ∷ []

-- the policy is true over the store, because both sides are, and over the slice of zero steps,
-- because neither is. It is false over alice's entry alone, a part that has this slice
pub record SliceAloneIsNotEachPartIn (m : ValidationMode) : Type 0 where
  pub asked : IsAskedIn m (wiki_basis m) reading
  pub policy : IsAskedPolicy (wiki_basis m) both_or_neither reading
  pub passes : Passes (wiki_basis m) both_or_neither
  pub wrong : OnlyFaultIs (wiki_basis m) both_or_neither 0 (exceeds 0 1)
  pub in_slice : eval (with_store reading (slice_of reading 0)) (condition_of both_or_neither)
      ≡ Gives (VBool true)
  pub same_in_slice : IsSameIn both_or_neither reading (slice_of reading 0)
  pub held : HoldsSlice reading.request reading.store 0 alice_alone
  pub differs : DiffersIn both_or_neither reading alice_alone
      (Gives (VBool false)) (Gives (VBool true))
  pub broken : IsSameInSlices both_or_neither reading 0 → ⊥

pub record LevelsAreNeededIn (m : ValidationMode) : Type 0 where
  pub less : OneLevelLessGoesWrongIn m
  pub literal : LiteralTargetsGoWrongIn m
  pub irrelevant : IrrelevantEnvironmentsCountIn m
  pub failures : OneFailureIsNotAnotherIn m
  pub parts : SliceAloneIsNotEachPartIn m
