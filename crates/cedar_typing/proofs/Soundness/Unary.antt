-- `!` does not go wrong.
use Rattle.std.proofs.Common.{◌≡◌, true, List, [], ◌∷◌, Option, Some, None, sym, subst, arith}
use Rattle.cedar_types.specs.declared.base.types.BoolType.TheVariants.{AnyBool}
use Rattle.cedar_types.specs.Types.{Ty, TBool}
use Rattle.cedar_types.specs.Expressions.View.{Written}
use Rattle.cedar_typing.specs.Evaluation.Outcomes.{Test, test_of, of_test, not_test}
use Rattle.cedar_typing.specs.Evaluation.World.{World, Outcome}
use Rattle.cedar_typing.specs.Rules.Unary.{not_type, not_form}
use Rattle.cedar_typing.specs.Soundness.{HasFound, IsSafe}
use Rattle.cedar_typing.specs.TypeTests.{accepts, bool_types}
use Rattle.cedar_typing.proofs.KeptTypes.Eager.{decided_type}
use Rattle.cedar_typing.proofs.Soundness.Capabilities.{hold_none}
use Rattle.cedar_typing.proofs.Soundness.ShortCircuit.Conjunction.{of_test_safe}
use Rattle.cedar_typing.proofs.Soundness.Eager.{AreTypes, GiftIsSound, AllFound, SoundForm}
use Rattle.cedar_typing.proofs.Soundness.Tests.{BoolSort, sort_ty, TestHas, SafeTest, accepted_sort, test_typed, test_safe}

not_has : (s : Test) (k : BoolSort) → TestHas s (Some k) → HasFound (Some (not_type (sort_ty k))) (of_test (not_test s))
not_has s k h = grind arith

any_has : (s : Test) → HasFound (Some (TBool AnyBool)) (of_test (not_test s))
any_has s = grind arith

not_safe : (s : Test) → SafeTest s → SafeTest (not_test s)
not_safe s h = grind arith

module _ (world : World) (o : Outcome) where
  abbrev opposite : Outcome
  opposite = of_test (not_test (test_of o))

  not_typed : (s : Ty) → accepts bool_types s ≡ true → HasFound (Some s) o → HasFound (Some (not_type s)) opposite
  not_typed s a h =
      let k = accepted_sort s a in
      let P : Ty → Type 0 = λ s. HasFound (Some s) o in
      let Q : Ty → Type 0 = λ s. HasFound (Some (not_type s)) opposite in
      subst Q (sym k.1) (not_has (test_of o) k.0 (test_typed k.0 o (subst P k.1 h)))

  not_is_safe : (s : Ty) → accepts bool_types s ≡ true → HasFound (Some s) o → IsSafe o → IsSafe opposite
  not_is_safe s a h g =
      let k = accepted_sort s a in
      let P : Ty → Type 0 = λ s. HasFound (Some s) o in
      of_test_safe (not_test (test_of o)) (not_safe (test_of o) (test_safe k.0 o (subst P k.1 h) g))

  pub not_sound : (m : Written) → SoundForm world (not_form m) (o ∷ []) opposite
  not_sound m = record { typed = typed; succeeds = succeeds; failed = λ t h. h }
    where
      typed : (ts : List (Option Ty)) → AreTypes (not_form m) (o ∷ []) ts → HasFound (decided_type ((not_form m).decides ts)) opposite
      typed [] a = absurd a.have
      typed (None ∷ ts) a = any_has (test_of o)
      typed (Some s ∷ ts) a = not_typed s a.meet.0 a.have.0

      succeeds : (ts : List (Option Ty)) → AreTypes (not_form m) (o ∷ []) ts → AllFound ts
          → GiftIsSound world (o ∷ []) opposite ((not_form m).decides ts)
      succeeds [] a f = absurd a.have
      succeeds (None ∷ ts) a f = absurd f.0
      succeeds (Some s ∷ ts) a f =
          record {
            safe = λ h. not_is_safe s a.meet.0 a.have.0 h.0;
            caps_hold_if_true = λ n. hold_none world;
            caps_hold_at_true = λ n. hold_none world;
          }
