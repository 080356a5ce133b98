-- Outcomes that keep the promises of a check, and outcomes that break them; and policies for which
-- the promises are false.
use Rattle.std.specs.Prelude.{pos, true, false, List, [], ◌∷◌, Some, None, codes}
use Rattle.cedar_types.specs.declared.base.types.ValidationMode.{ValidationMode}
use Rattle.cedar_types.specs.declared.base.types.ValidationMode.TheVariants.{Strict, Permissive}
use Rattle.cedar_types.specs.Errors.{Finding}
use Rattle.cedar_types.specs.Templates.{PlainTemplate}
use Rattle.cedar_types.specs.Types.{TLong}
use Rattle.cedar_types.specs.Values.{Value, VBool, VLong, VString, VEntity, VSet, VRecord, VExtension, no_values, no_entries}
use Rattle.cedar_typing.specs.Evaluation.World.{Failure, TypeFailure, AbsentAttribute, AbsentTag, MissingEntity, Overflow, ExtensionFailure}
use Rattle.cedar_typing.specs.Evaluation.World.{UnlinkedSlot, UnknownValue, Gives, Fails}
use Rattle.cedar_typing.specs.Examples.Expressions.{true_lit, mistyped, numbered}
use Rattle.cedar_typing.specs.Examples.PolicySoundness.{sample_basis, policy_when}
use Rattle.cedar_typing.specs.Examples.World.{decimal, alice, sample}
use Rattle.cedar_typing.specs.PolicyCheck.{succeeds, irrelevant, fails}
use Rattle.cedar_typing.specs.PolicyCheck.Outcome.{impossible}
use Rattle.cedar_typing.specs.Soundness.Policies.{PolicyIsSafe, ImpossibleIsNeverTrue}
use Rattle.cedar_typing.specs.Soundness.PolicyCheck.{IsBooleanOrAllowed, Promises, IsSoundPolicyCheck}
use Rattle.cedar_typing.specs.Soundness.{HasFound, IsTrueOutcome}
use Rattle.cedar_typing.specs.TypedExpr.{Source, TypedTree}

pub record PromiseExamples : Type 0 where
  -- both booleans and three failures are allowed
  pub true_value : IsBooleanOrAllowed (Gives (VBool true))
  pub false_value : IsBooleanOrAllowed (Gives (VBool false))
  pub missing_entity : IsBooleanOrAllowed (Fails MissingEntity)
  pub overflow : IsBooleanOrAllowed (Fails Overflow)
  pub extension_failure : IsBooleanOrAllowed (Fails ExtensionFailure)
  -- a value of another kind is not allowed
  pub number : IsBooleanOrAllowed (Gives (VLong (pos 1))) → ⊥
  pub text : IsBooleanOrAllowed (Gives (VString (codes "true"))) → ⊥
  pub entity : IsBooleanOrAllowed (Gives (VEntity alice)) → ⊥
  pub set : IsBooleanOrAllowed (Gives (VSet no_values)) → ⊥
  pub record_value : IsBooleanOrAllowed (Gives (VRecord no_entries)) → ⊥
  pub extension_value : IsBooleanOrAllowed (Gives (VExtension decimal (codes "1.0"))) → ⊥
  -- the five other failures are not allowed
  pub type_failure : IsBooleanOrAllowed (Fails TypeFailure) → ⊥
  pub absent_attribute : IsBooleanOrAllowed (Fails AbsentAttribute) → ⊥
  pub absent_tag : IsBooleanOrAllowed (Fails AbsentTag) → ⊥
  pub unlinked_slot : IsBooleanOrAllowed (Fails UnlinkedSlot) → ⊥
  pub unknown_value : IsBooleanOrAllowed (Fails UnknownValue) → ⊥
  -- a success promises an allowed outcome, whatever its typed expression
  pub success : (x : TypedTree) → Promises (succeeds x) (Gives (VBool true))
  pub success_number : (x : TypedTree) → Promises (succeeds x) (Gives (VLong (pos 1))) → ⊥
  pub success_type_failure : (x : TypedTree) → Promises (succeeds x) (Fails TypeFailure) → ⊥
  -- a condition that is never true is false or fails in any way, whatever its errors: it is not
  -- true, and has no value of another kind
  pub irrelevant_false : (es : List Finding) (x : TypedTree)
      → Promises (irrelevant es x) (Gives (VBool false))
  pub irrelevant_failure : (es : List Finding) (x : TypedTree) (f : Failure)
      → Promises (irrelevant es x) (Fails f)
  pub irrelevant_true : (es : List Finding) (x : TypedTree)
      → Promises (irrelevant es x) (Gives (VBool true)) → ⊥
  pub irrelevant_number : (es : List Finding) (x : TypedTree)
      → Promises (irrelevant es x) (Gives (VLong (pos 1))) → ⊥
  -- if a type was found, a value has it. A failure needs no type, and without a type nothing is
  -- asked
  pub found : HasFound (Some TLong) (Gives (VLong (pos 1)))
  pub found_boolean : HasFound (Some TLong) (Gives (VBool true)) → ⊥
  pub found_failure : (f : Failure) → HasFound (Some TLong) (Fails f)
  pub not_found : (v : Value) → HasFound None (Gives v)
  -- only the boolean true is true
  pub is_true : IsTrueOutcome (Gives (VBool true))
  pub false_is_true : IsTrueOutcome (Gives (VBool false)) → ⊥
  pub number_is_true : IsTrueOutcome (Gives (VLong (pos 1))) → ⊥
  pub failure_is_true : (f : Failure) → IsTrueOutcome (Fails f) → ⊥

-- ---- promises of a condition and of a policy

-- `1 + true`; the policy with it as its rest, and the policy with `true` as its rest
abbrev pub wrong_condition : Source
wrong_condition = numbered mistyped

abbrev pub wrong_policy : PlainTemplate
wrong_policy = policy_when mistyped

abbrev pub true_policy : PlainTemplate
true_policy = policy_when true_lit

pub record PromisesCanBreakIn (m : ValidationMode) : Type 0 where
  -- for a condition that goes wrong, the promise of a success is false. If the condition has
  -- failed, nothing is promised
  pub condition : (x : TypedTree)
      → IsSoundPolicyCheck (sample m) wrong_condition (succeeds x) → ⊥
  pub condition_refused : (es : List Finding)
      → IsSoundPolicyCheck (sample m) wrong_condition (fails es)
  -- for a policy that goes wrong, the promise of passing is false. If it does not pass, nothing is
  -- promised
  pub policy : PolicyIsSafe (sample_basis m) wrong_policy true → ⊥
  pub policy_refused : PolicyIsSafe (sample_basis m) wrong_policy false
  -- for a policy that is true, the promise of a new warning is false. If the warning is not there,
  -- or was there before, nothing is promised
  pub warned : ImpossibleIsNeverTrue (sample_basis m) true_policy []
      (impossible true_policy ∷ []) → ⊥
  pub not_warned : ImpossibleIsNeverTrue (sample_basis m) true_policy [] []
  pub warned_before : ImpossibleIsNeverTrue (sample_basis m) true_policy
      (impossible true_policy ∷ []) (impossible true_policy ∷ [])

pub record PromisesCanBreak : Type 0 where
  pub strict : PromisesCanBreakIn Strict
  pub permissive : PromisesCanBreakIn Permissive
