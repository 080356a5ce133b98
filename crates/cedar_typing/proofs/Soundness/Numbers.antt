-- Negation, `+`, `-` and `*` do not go wrong.
use Rattle.std.proofs.Common.{◌≡◌, Bool, true, false, ◌&&◌, [], ◌∷◌, Some, if◌then◌else◌, ℤ, sym, true≢false}
use Rattle.std.specs.Prelude.{neg_ℤ, int_le, int_lt}
use Rattle.cedar_types.specs.declared.base.expressions.operators.BinaryOp.{BinaryOp}
use Rattle.cedar_types.specs.declared.base.expressions.operators.UnaryOp.{UnaryOp}
use Rattle.cedar_types.specs.Types.{Ty, TNever, TLong}
use Rattle.cedar_types.specs.Expressions.Tree.{unary, binary}
use Rattle.cedar_types.specs.Expressions.View.{Written}
use Rattle.cedar_types.specs.Values.{Value, VLong, IsLong, HasType}
use Rattle.cedar_typing.specs.Evaluation.Eval.{long_limit, in_range, on_longs, negation}
use Rattle.cedar_typing.specs.Evaluation.Outcomes.{on_value}
use Rattle.cedar_typing.specs.Evaluation.World.{World, Overflow, Outcome, Gives, Fails}
use Rattle.cedar_typing.specs.Rules.Numbers.{arithmetic_form}
use Rattle.cedar_typing.specs.Rules.Unary.{negation_form}
use Rattle.cedar_typing.specs.Soundness.{HasFound, IsSafe}
use Rattle.cedar_typing.specs.TypeTests.{accepts, long_types}
use Rattle.cedar_typing.proofs.Soundness.Eager.{SoundForm}
use Rattle.cedar_typing.proofs.Soundness.FixedTypes.{one_value_sound, two_values_sound}

-- a value of a type that is accepted where a Long is expected is a long
pub long_value : (t : Ty) (v : Value) → accepts long_types t ≡ true → HasType t v → IsLong v
long_value TNever v a h = absurd h
long_value TLong v a h = h
long_value t v a h = absurd (true≢false (sym a))

-- ---- a number in its range is a long, and overflow is allowed

number_typed : (b : Bool) (n : ℤ) → HasFound (Some TLong) (if b then Gives (VLong n) else Fails Overflow)
number_typed true n = tt
number_typed false n = tt

number_safe : (b : Bool) (n : ℤ) → IsSafe (if b then Gives (VLong n) else Fails Overflow)
number_safe true n = tt
number_safe false n = tt

range_typed : (n : ℤ) → HasFound (Some TLong) (in_range n)
range_typed n = number_typed (int_le (neg_ℤ long_limit) n && int_lt n long_limit) n

range_safe : (n : ℤ) → IsSafe (in_range n)
range_safe n = number_safe (int_le (neg_ℤ long_limit) n && int_lt n long_limit) n

-- ---- negation

negation_typed : (v : Value) → HasFound (Some TLong) (negation v)
negation_typed (VLong n) = range_typed (neg_ℤ n)
negation_typed v = tt

long_negated : (v : Value) → IsLong v → IsSafe (negation v)
long_negated (VLong n) h = range_safe (neg_ℤ n)
long_negated v h = absurd h

pub negation_sound : (world : World) (m : Written) (o : Outcome) → SoundForm world (negation_form m) (o ∷ []) (on_value o negation)
negation_sound world m o =
    one_value_sound long_types TLong negation negation_typed (λ s v a h. long_negated v (long_value s v a h))
    world m (λ k x. unary k UnaryOp.Neg x) o

-- ---- `+`, `-` and `*`

-- f is in range, or overflows
module _ (f : ℤ → ℤ → ℤ) where
  abbrev operator : Value → Value → Outcome
  operator = on_longs (λ m n. in_range (f m n))

  operator_typed : (v w : Value) → HasFound (Some TLong) (operator v w)
  operator_typed (VLong m) (VLong n) = range_typed (f m n)
  operator_typed v w = tt

  longs_safe : (v w : Value) → IsLong v → IsLong w → IsSafe (operator v w)
  longs_safe (VLong m) (VLong n) h k = range_safe (f m n)
  longs_safe (VLong m) w h k = absurd k
  longs_safe v w h k = absurd h

  pub operator_sound : (world : World) (m : Written) (op : BinaryOp) (o o' : Outcome)
      → SoundForm world (arithmetic_form m op) (o ∷ o' ∷ []) (on_value o (λ v. on_value o' (operator v)))
  operator_sound world m op o o' =
      two_values_sound long_types long_types TLong operator operator_typed
      (λ r s v w a b h k. longs_safe v w (long_value r v a h) (long_value s w b k)) world m (λ k x y. binary k op x y) o o'
