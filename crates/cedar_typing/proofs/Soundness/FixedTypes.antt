-- Forms of one type, whatever the types of their operands, do not go wrong if the operator gives
-- values of that type alone and fails for no value of the expected types.
use Rattle.std.proofs.Common.{◌≡◌, true, List, [], ◌∷◌, Option, Some, None}
use Rattle.cedar_types.specs.Types.{Ty}
use Rattle.cedar_types.specs.Expressions.View.{Written}
use Rattle.cedar_types.specs.Values.{Value, HasType}
use Rattle.cedar_typing.specs.Capabilities.{no_caps}
use Rattle.cedar_typing.specs.Eager.{gives, Form, on_one, on_two}
use Rattle.cedar_typing.specs.Evaluation.Outcomes.{on_value}
use Rattle.cedar_typing.specs.Evaluation.World.{World, Outcome, Gives, Fails}
use Rattle.cedar_typing.specs.Soundness.{HasFound, IsSafe}
use Rattle.cedar_typing.specs.TypedExpr.{TypedTree, Mark}
use Rattle.cedar_typing.specs.TypeTests.{accepts}
use Rattle.cedar_typing.proofs.Soundness.Capabilities.{hold_none}
use Rattle.cedar_typing.proofs.Soundness.Eager.{AllSafe, AllFound, AreTypes, SoundGift, SoundForm}

-- a gift without capabilities
pub silent_gift : (world : World) (os : List Outcome) (o : Outcome) (t : Ty) → (AllSafe os → IsSafe o) → SoundGift world os o t no_caps
silent_gift world os o t safe =
    record { safe = safe; caps_hold_if_true = λ n. hold_none world; caps_hold_at_true = λ n. hold_none world }

-- ---- one operand

module _ (ts : List Ty) (t : Ty) (f : Value → Outcome) (typed : (v : Value) → HasFound (Some t) (f v))
    (safe : (s : Ty) (v : Value) → accepts ts s ≡ true → HasType s v → IsSafe (f v)) where
  value_typed : (o : Outcome) → HasFound (Some t) (on_value o f)
  value_typed (Gives v) = typed v
  value_typed (Fails g) = tt

  value_safe : (s : Ty) (o : Outcome) → accepts ts s ≡ true → HasFound (Some s) o → IsSafe o → IsSafe (on_value o f)
  value_safe s (Gives v) a h k = safe s v a h
  value_safe s (Fails g) a h k = k

  module _ (world : World) (m : Written) (node : Mark → TypedTree → TypedTree) (o : Outcome) where
    abbrev one_form : Form
    one_form = on_one m (Some ts) (λ s. gives t no_caps) node

    one_succeeds : (us : List (Option Ty)) → AreTypes one_form (o ∷ []) us → AllFound us → SoundGift world (o ∷ []) (on_value o f) t no_caps
    one_succeeds [] a k = absurd a.have
    one_succeeds (None ∷ us) a k = absurd k.0
    one_succeeds (Some s ∷ us) a k = silent_gift world (o ∷ []) (on_value o f) t (λ h. value_safe s o a.meet.0 a.have.0 h.0)

    pub one_value_sound : SoundForm world one_form (o ∷ []) (on_value o f)
    one_value_sound = record { typed = λ us a. value_typed o; succeeds = one_succeeds; failed = λ t h. h }

-- ---- two operands

module _ (ts us : List Ty) (t : Ty) (f : Value → Value → Outcome) (typed : (v w : Value) → HasFound (Some t) (f v w))
    (safe : (r s : Ty) (v w : Value) → accepts ts r ≡ true → accepts us s ≡ true → HasType r v → HasType s w → IsSafe (f v w)) where
  abbrev pub both : Outcome → Outcome → Outcome
  both o o' = on_value o (λ v. on_value o' (f v))

  values_typed : (o o' : Outcome) → HasFound (Some t) (both o o')
  values_typed (Gives v) (Gives w) = typed v w
  values_typed (Gives v) (Fails g) = tt
  values_typed (Fails g) o' = tt

  values_safe : (r s : Ty) (o o' : Outcome) → accepts ts r ≡ true → accepts us s ≡ true → HasFound (Some r) o
      → HasFound (Some s) o' → IsSafe o → IsSafe o' → IsSafe (both o o')
  values_safe r s (Gives v) (Gives w) a b h k p q = safe r s v w a b h k
  values_safe r s (Gives v) (Fails g) a b h k p q = q
  values_safe r s (Fails g) o' a b h k p q = p

  module _ (world : World) (m : Written) (node : Mark → TypedTree → TypedTree → TypedTree) (o o' : Outcome) where
    abbrev two_form : Form
    two_form = on_two m (Some ts) (Some us) (λ r s. gives t no_caps) node

    two_succeed : (xs : List (Option Ty)) → AreTypes two_form (o ∷ o' ∷ []) xs → AllFound xs
        → SoundGift world (o ∷ o' ∷ []) (both o o') t no_caps
    two_succeed [] a k = absurd a.have
    two_succeed (None ∷ xs) a k = absurd k.0
    two_succeed (Some r ∷ []) a k = absurd a.have.1
    two_succeed (Some r ∷ None ∷ xs) a k = absurd k.1.0
    two_succeed (Some r ∷ Some s ∷ xs) a k =
        silent_gift world (o ∷ o' ∷ []) (both o o') t (λ h. values_safe r s o o' a.meet.0 a.meet.1.0 a.have.0 a.have.1.0 h.0 h.1.0)

    pub two_values_sound : SoundForm world two_form (o ∷ o' ∷ []) (both o o')
    two_values_sound = record { typed = λ xs a. values_typed o o'; succeeds = two_succeed; failed = λ t h. h }
