-- `||` does not go wrong.
use Rattle.std.proofs.Common.{◌≡◌, true, false, List, Option, Some, option_map, refl, sym, ◌∙◌, subst, arith}
use Rattle.cedar_types.specs.declared.base.location.Loc.{Loc}
use Rattle.cedar_types.specs.declared.base.types.BoolType.TheVariants.{True}
use Rattle.cedar_types.specs.Types.{Ty, TBool}
use Rattle.cedar_types.specs.Expressions.View.{Written}
use Rattle.cedar_types.specs.Errors.{Finding}
use Rattle.cedar_typing.specs.Capabilities.{Caps, no_caps, intersection}
use Rattle.cedar_typing.specs.Evaluation.Conformance.{AllHold, SaysTrue}
use Rattle.cedar_typing.specs.Evaluation.Outcomes.{Test, Says, Stops, test_of, of_test, or_test}
use Rattle.cedar_typing.specs.Evaluation.World.{World, Outcome}
use Rattle.cedar_typing.specs.Judgments.{Judgment}
use Rattle.cedar_typing.specs.Rules.ShortCircuit.{disjunction, sides_type, sides_caps, sides_annotation, short_circuit_rules, left_ends}
use Rattle.cedar_typing.specs.Rules.ShortCircuit.{both_sides, left_ends_failed, side_failed}
use Rattle.cedar_typing.specs.Soundness.{HasFound}
use Rattle.cedar_typing.specs.TypeEnv.{TypeEnv}
use Rattle.cedar_typing.specs.TypeTests.{is_true}
use Rattle.cedar_typing.specs.TypedExpr.{TypedTree, annotation}
use Rattle.cedar_typing.proofs.Views.Marks.{annotation-at_place}
use Rattle.cedar_typing.proofs.Soundness.Capabilities.{hold_left, hold_right}
use Rattle.cedar_typing.proofs.Soundness.ShortCircuit.Conjunction.{of_test_sound, at_type, ended_failed, derived_test, true_sort}
use Rattle.cedar_typing.proofs.Soundness.Parts.{Sound, Sounds, IsSure, refused_sound}
use Rattle.cedar_typing.proofs.Soundness.Tests.{BoolSort, NoValue, AnyValue, OnlyTrue, OnlyFalse, sort_ty, TestHas, SafeTest, SureSort, SoundTest, sort_of}
use Rattle.cedar_typing.proofs.Soundness.Tests.{sorted, operand_sort, tested_operand}
use Rattle.cedar_typing.proofs.TypeTests.{true_type}

-- ---- finite facts

or_has : (s t : Test) (k l : Option BoolSort) → TestHas s k → TestHas t l
    → HasFound (Some (sides_annotation disjunction (option_map sort_ty k) (option_map sort_ty l)))
    (of_test (or_test s t))
or_has s t k l h i = grind arith

or_safe : (s t : Test) → SafeTest s → SafeTest t → SafeTest (or_test s t)
or_safe s t h i = grind arith

true_has : (s t : Test) → TestHas s (Some OnlyTrue) → HasFound (Some (TBool True)) (of_test (or_test s t))
true_has s t h = grind arith

true_safe : (s t : Test) → TestHas s (Some OnlyTrue) → SafeTest s → SafeTest (or_test s t)
true_safe s t h i = grind arith

-- the left side is true if the whole is, and the right side is False
left_true : (s t : Test) → TestHas t (Some OnlyFalse) → SaysTrue (or_test s t) → SaysTrue s
left_true s t h n = grind arith

right_true : (s t : Test) → TestHas s (Some OnlyFalse) → SaysTrue (or_test s t) → SaysTrue t
right_true s t h n = grind arith

module _ (world : World) where
  -- ---- `||`

  either_true : (s t : Test) (c c' : Caps) → (SaysTrue s → AllHold world c) → (SaysTrue t → AllHold world c')
      → SaysTrue (or_test s t) → AllHold world (intersection c c')
  either_true (Says true) t c c' f g n = hold_left world c c' (f refl)
  either_true (Says false) t c c' f g n = hold_right world c c' (g n)
  either_true (Stops e) t c c' f g n = absurd n

  or_hold : (s t : Test) (k l : BoolSort) (c c' : Caps) → SoundTest world s true (Some k) c
      → SoundTest world t true (Some l) c' → SaysTrue (or_test s t)
      → AllHold world (sides_caps disjunction (sort_ty k) (sort_ty l) c c')
  or_hold s t k OnlyTrue c c' h i n = i.caps_hold_at_true tt
  or_hold s t k OnlyFalse c c' h i n = h.caps_hold_if_true (left_true s t i.typed n)
  or_hold s t OnlyFalse NoValue c c' h i n = i.caps_hold_if_true (right_true s t h.typed n)
  or_hold s t OnlyFalse AnyValue c c' h i n = i.caps_hold_if_true (right_true s t h.typed n)
  or_hold s t k l c c' h i n = either_true s t c c' h.caps_hold_if_true i.caps_hold_if_true n

  -- the capabilities of a True whole hold, because one side makes it True
  or_sure : (k l : BoolSort) (c c' : Caps) → (SureSort (Some k) → AllHold world c)
      → (SureSort (Some l) → AllHold world c') → IsSure (Some (sides_type disjunction (sort_ty k) (sort_ty l)))
      → AllHold world (sides_caps disjunction (sort_ty k) (sort_ty l) c c')
  or_sure k OnlyTrue c c' f g n = g tt
  or_sure NoValue OnlyFalse c c' f g n = f tt
  or_sure OnlyTrue OnlyFalse c c' f g n = f tt
  or_sure OnlyFalse NoValue c c' f g n = g tt
  or_sure NoValue AnyValue c c' f g n = absurd n
  or_sure k l c c' f g n = absurd n

  or_success : (s t : Test) (k l : BoolSort) (c c' : Caps) → SoundTest world s true (Some k) c → SoundTest world t true (Some l) c'
      → Sound world (of_test (or_test s t)) true (Some (sides_type disjunction (sort_ty k) (sort_ty l)))
      (sides_caps disjunction (sort_ty k) (sort_ty l) c c')
  or_success s t k l c c' h i =
      of_test_sound world (or_test s t) _ _ (or_has s t (Some k) (Some l) h.typed i.typed)
      (or_safe s t (h.safe refl) (i.safe refl)) (or_hold s t k l c c' h i)
      (or_sure k l c c' h.caps_hold_at_true i.caps_hold_at_true)

  module _ (env : TypeEnv) (m : Written) (l l' : Option Loc) (o o' : Outcome) (A : Judgment) (B : Caps → Judgment)
      (prior : Caps) (left : Sounds world o A) (right : Sounds world o' (B prior)) where
    abbrev Rules : Judgment
    Rules = short_circuit_rules env disjunction m l l' A B prior

    abbrev one_of_both : Outcome
    one_of_both = of_test (or_test (test_of o) (test_of o'))

    true_left : (s : Ty) (c : Caps) → is_true s ≡ true → Sound world o true (Some s) c → Sound world one_of_both true (Some s) c
    true_left s c e = at_type world (TBool True) s o one_of_both c c (true_type s e) by_true
      where
        by_true : Sound world o true (Some (TBool True)) c → Sound world one_of_both true (Some (TBool True)) c
        by_true s =
            let h = sorted world o true OnlyTrue c s in
            of_test_sound world _ _ _ (true_has (test_of o) (test_of o') h.typed)
            (true_safe (test_of o) (test_of o') h.typed (h.safe refl)) (λ n. h.caps_hold_at_true tt)
            (λ n. h.caps_hold_at_true tt)

    or_derived : (t : Ty) (c : Caps) (x : TypedTree) → Rules.derives t c x → Sound world one_of_both true (Some t) c
    or_derived t c x (left_ends {s = s} {c = k} {a = a} d p e) = true_left s k e (left.derivations _ _ _ d)
    or_derived t c x (both_sides {s = s} {t = u} {c = k} {c' = k'} d p n d' q) =
        let f = derived_test world o s k p (left.derivations _ _ _ d) in
        let g = derived_test world o' u k' q (right.derivations _ _ _ d') in
        let Q : Ty × Ty → Type 0 = λ y. Sound world one_of_both true (Some (sides_type disjunction y.0 y.1))
        (sides_caps disjunction y.0 y.1 k k') in
        subst Q (λ j. (sym f.is j, sym g.is j)) (or_success (test_of o) (test_of o') f.sort g.sort k k' f.test g.test)

    or_recovery : (x : TypedTree) (es : List Finding) → Rules.recovers x es → Sound world one_of_both false (annotation x) no_caps
    or_recovery x es (left_ends_failed {c = k} {a = a} p n) =
        ended_failed world env l o one_of_both A left k a es p OnlyTrue
        (true_sort (annotation a) (operand_sort world o env l A false k a es p) n) (true_has (test_of o) (test_of o')) m.place
    or_recovery x es
        (side_failed {succeeded = succeeded} {succeeded' = succeeded'} {c = k} {c' = k'} {a = a} {b = b} {es = fs} {es' = fs'}
        p n p' q) =
        let h = tested_operand world o env l A left succeeded k a fs p in
        let i = tested_operand world o' env l' (B prior) right succeeded' k' b fs' p' in
        let e = operand_sort world o env l A succeeded k a fs p in
        let e' = operand_sort world o' env l' (B prior) succeeded' k' b fs' p' in
        let Q : Option Ty × Option Ty → Type 0 = λ y. HasFound (Some (sides_annotation disjunction y.0 y.1)) one_of_both in
        refused_sound world one_of_both
        _ (subst Q (λ j. (sym e j, sym e' j))
        (or_has (test_of o) (test_of o') (sort_of (annotation a)) (sort_of (annotation b)) h.typed i.typed))

    or_marks : (t : Ty) (c : Caps) (x : TypedTree) → Rules.derives t c x → annotation x ≡ Some t
    or_marks t c x (left_ends {a = a} d p e) = annotation-at_place m.place a ∙ left.marks _ _ _ d
    or_marks t c x (both_sides d p n d' q) = refl

    pub or_sounds : Sounds world one_of_both Rules
    or_sounds = record { derivations = or_derived; recoveries = or_recovery; marks = or_marks }
