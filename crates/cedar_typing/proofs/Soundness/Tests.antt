-- Promises of typing on operands that have to be Boolean, as tests.
use Rattle.std.proofs.Common.{◌≡◌, Bool, true, false, not, List, Option, Some, None, option_map, refl, sym, ◌∙◌, ap, subst, arith}
use Rattle.std.specs.Prelude.{IsTrue}
use Rattle.cedar_types.specs.declared.base.location.Loc.{Loc}
use Rattle.cedar_types.specs.declared.base.types.BoolType.TheVariants.{AnyBool, True, False}
use Rattle.cedar_types.specs.Types.{Ty, TNever, TBool}
use Rattle.cedar_types.specs.Errors.{Finding}
use Rattle.cedar_typing.specs.Capabilities.{Caps, no_caps}
use Rattle.cedar_typing.specs.Evaluation.Conformance.{AllHold, SaysTrue}
use Rattle.cedar_typing.specs.Evaluation.Outcomes.{Test, Says, Stops, test_of}
use Rattle.cedar_typing.specs.Evaluation.World.{World, Outcome}
use Rattle.cedar_typing.specs.Judgments.{accepted, refused, missing, Judgment, Operand}
use Rattle.cedar_typing.specs.Soundness.{HasFound, IsAllowed, IsSafe, IsTrueOutcome}
use Rattle.cedar_typing.specs.TypeEnv.{TypeEnv}
use Rattle.cedar_typing.specs.TypeTests.{accepts, bool_types}
use Rattle.cedar_typing.specs.TypedExpr.{TypedTree, annotation}
use Rattle.cedar_typing.proofs.Views.Marks.{annotation-without_type}
use Rattle.cedar_typing.proofs.Soundness.Parts.{Sound, Sounds, IsSure, IsAccepted, operand_sound, operand_accepted}

-- the types that are accepted where a Boolean is required
pub data BoolSort : Type 0 where
  NoValue AnyValue OnlyTrue OnlyFalse : BoolSort

abbrev pub sort_ty : BoolSort → Ty
sort_ty NoValue = TNever
sort_ty AnyValue = TBool AnyBool
sort_ty OnlyTrue = TBool True
sort_ty OnlyFalse = TBool False

abbrev pub BoolSortHas : BoolSort → Bool → Type 0
BoolSortHas NoValue b = ⊥
BoolSortHas AnyValue b = Unit {0}
BoolSortHas OnlyTrue b = IsTrue b
BoolSortHas OnlyFalse b = IsTrue (not b)

-- the boolean of the test, if there is one, has the type that was found, if one was
abbrev pub TestHas : Test → Option BoolSort → Type 0
TestHas (Says b) (Some k) = BoolSortHas k b
TestHas (Says b) None = Unit {0}
TestHas (Stops f) k = Unit {0}

abbrev pub SafeTest : Test → Type 0
SafeTest (Says b) = Unit {0}
SafeTest (Stops f) = IsAllowed f

abbrev pub SureSort : Option BoolSort → Type 0
SureSort (Some NoValue) = Unit {0}
SureSort (Some OnlyTrue) = Unit {0}
SureSort _ = ⊥

-- the promise on an operand, as a test
pub record SoundTest (world : World) (s : Test) (succeeded : Bool) (k : Option BoolSort) (c : Caps) : Type 0 where
  pub typed : TestHas s k
  pub safe : IsTrue succeeded → SafeTest s
  pub caps_hold_if_true : SaysTrue s → AllHold world c
  pub caps_hold_at_true : SureSort k → AllHold world c

-- ---- an operand

pub test_typed : (k : BoolSort) (o : Outcome) → HasFound (Some (sort_ty k)) o → TestHas (test_of o) (Some k)
test_typed k o h = grind arith

pub test_safe : (k : BoolSort) (o : Outcome) → HasFound (Some (sort_ty k)) o → IsSafe o → SafeTest (test_of o)
test_safe k o h s = grind arith

test_told : (o : Outcome) → SaysTrue (test_of o) → IsTrueOutcome o
test_told o h = grind arith

sure_type : (k : BoolSort) → SureSort (Some k) → IsSure (Some (sort_ty k))
sure_type k h = grind arith

pub accepted_sort : (t : Ty) → accepts bool_types t ≡ true → (k : BoolSort) × (t ≡ sort_ty k)
accepted_sort TNever h = (NoValue, refl)
accepted_sort (TBool AnyBool) h = (AnyValue, refl)
accepted_sort (TBool True) h = (OnlyTrue, refl)
accepted_sort (TBool False) h = (OnlyFalse, refl)
accepted_sort t h = cc

-- the sort of a type that was found, if it is accepted
abbrev pub sort_of : Option Ty → Option BoolSort
sort_of (Some TNever) = Some NoValue
sort_of (Some (TBool AnyBool)) = Some AnyValue
sort_of (Some (TBool True)) = Some OnlyTrue
sort_of (Some (TBool False)) = Some OnlyFalse
sort_of _ = None

pub sort_is : (k : BoolSort) → sort_of (Some (sort_ty k)) ≡ Some k
sort_is NoValue = refl
sort_is AnyValue = refl
sort_is OnlyTrue = refl
sort_is OnlyFalse = refl

pub sort_back : (t : Option Ty) → IsAccepted bool_types t → t ≡ option_map sort_ty (sort_of t)
sort_back None h = refl
sort_back (Some t) h =
    let k = accepted_sort t h in
    let P : Ty → Type 0 = λ t. Some t ≡ option_map sort_ty (sort_of (Some t)) in
    subst P (sym k.1) (ap (option_map sort_ty) (sym (sort_is k.0)))

module _ (world : World) (o : Outcome) where
  pub sorted : (succeeded : Bool) (k : BoolSort) (c : Caps) → Sound world o succeeded (Some (sort_ty k)) c
      → SoundTest world (test_of o) succeeded (Some k) c
  sorted succeeded k c s = record {
    typed = test_typed k o s.typed;
    safe = λ h. test_safe k o s.typed (s.safe h);
    caps_hold_if_true = λ h. s.caps_hold_if_true (test_told o h);
    caps_hold_at_true = λ h. s.caps_hold_at_true (sure_type k h);
  }

  missing_test : SoundTest world (test_of o) false None no_caps
  missing_test =
      record {
        typed = none_typed (test_of o);
        safe = λ h. cc;
        caps_hold_if_true = λ h q n. cc;
        caps_hold_at_true = λ h. absurd h;
      }
    where
      none_typed : (s : Test) → TestHas s None
      none_typed (Says b) = tt
      none_typed (Stops f) = tt

  module _ (env : TypeEnv) (l : Option Loc) (J : Judgment) where
    pub operand_sort : (succeeded : Bool) (c : Caps) (x : TypedTree) (es : List Finding)
        → Operand env bool_types l J succeeded c x es → annotation x ≡ option_map sort_ty (sort_of (annotation x))
    operand_sort succeeded c x es o = sort_back (annotation x) (operand_accepted J env bool_types l succeeded c x es o)

    typed_operand : (succeeded : Bool) (c : Caps) (x : TypedTree) (t : Ty) → annotation x ≡ Some t
        → accepts bool_types t ≡ true → Sound world o succeeded (annotation x) c
        → SoundTest world (test_of o) succeeded (sort_of (annotation x)) c
    typed_operand succeeded c x t n h s =
        let k = accepted_sort t h in
        let q : annotation x ≡ Some (sort_ty k.0) = n ∙ ap Some k.1 in
        let P : Option Ty → Type 0 = λ a. Sound world o succeeded a c in
        let Q : Option BoolSort → Type 0 = λ k. SoundTest world (test_of o) succeeded k c in
        subst Q (sym (ap sort_of q ∙ sort_is k.0)) (sorted succeeded k.0 c (subst P q s))

    none_operand : (x : Option Ty) → x ≡ None → SoundTest world (test_of o) false (sort_of x) no_caps
    none_operand x n =
        let Q : Option Ty → Type 0 = λ x. SoundTest world (test_of o) false (sort_of x) no_caps in
        subst Q (sym n) missing_test

    pub tested_operand : Sounds world o J → (succeeded : Bool) (c : Caps) (x : TypedTree) (es : List Finding)
        → Operand env bool_types l J succeeded c x es
        → SoundTest world (test_of o) succeeded (sort_of (annotation x)) c
    tested_operand sounds succeeded c x es (accepted t p n h) =
        typed_operand succeeded c x t n h
        (operand_sound world o J sounds env bool_types l succeeded c x es (accepted t p n h))
    tested_operand sounds succeeded c x es (refused {e = e} t p n h) = none_operand _ (annotation-without_type e)
    tested_operand sounds succeeded c x es (missing p n) = none_operand _ n
