-- `&&` does not go wrong.
use Rattle.std.proofs.Common.{◌≡◌, Bool, true, false, List, Option, Some, None, option_map, refl, sym, ◌∙◌, ap, subst, arith}
use Rattle.cedar_types.specs.declared.base.location.Loc.{Loc}
use Rattle.cedar_types.specs.declared.base.types.BoolType.TheVariants.{False}
use Rattle.cedar_types.specs.Types.{Ty, TBool}
use Rattle.cedar_types.specs.Expressions.View.{Written}
use Rattle.cedar_types.specs.Errors.{Finding}
use Rattle.cedar_typing.specs.Capabilities.{Caps, no_caps, union}
use Rattle.cedar_typing.specs.Evaluation.Conformance.{AllHold, SaysTrue}
use Rattle.cedar_typing.specs.Evaluation.Outcomes.{Test, test_of, of_test, and_test}
use Rattle.cedar_typing.specs.Evaluation.World.{World, Outcome}
use Rattle.cedar_typing.specs.Judgments.{Judgment, Operand}
use Rattle.cedar_typing.specs.Rules.ShortCircuit.{conjunction, sides_type, sides_caps, sides_annotation, short_circuit_rules, left_ends}
use Rattle.cedar_typing.specs.Rules.ShortCircuit.{both_sides, left_ends_failed, side_failed}
use Rattle.cedar_typing.specs.Soundness.{HasFound, IsSafe, IsTrueOutcome}
use Rattle.cedar_typing.specs.TypeEnv.{TypeEnv}
use Rattle.cedar_typing.specs.TypeTests.{accepts, bool_types, is_false, is_true, annotation_passes}
use Rattle.cedar_typing.specs.TypedExpr.{TypedTree, annotation, at_place}
use Rattle.cedar_typing.proofs.Views.Marks.{annotation-at_place}
use Rattle.cedar_typing.proofs.Soundness.Capabilities.{hold_none, hold_either}
use Rattle.cedar_typing.proofs.Soundness.Parts.{Sound, Sounds, IsSure, refused_sound}
use Rattle.cedar_typing.proofs.Soundness.Tests.{BoolSort, NoValue, AnyValue, OnlyTrue, OnlyFalse, sort_ty, TestHas, SafeTest, SureSort, SoundTest}
use Rattle.cedar_typing.proofs.Soundness.Tests.{accepted_sort, sort_of, sorted, operand_sort, tested_operand}
use Rattle.cedar_typing.proofs.TypeTests.{false_type}

-- ---- finite facts

pub of_test_safe : (s : Test) → SafeTest s → IsSafe (of_test s)
of_test_safe s h = grind arith

pub of_test_true : (s : Test) → IsTrueOutcome (of_test s) → SaysTrue s
of_test_true s h = grind arith

and_has : (s t : Test) (k l : Option BoolSort) → TestHas s k → (SaysTrue s → TestHas t l)
    → HasFound (Some (sides_annotation conjunction (option_map sort_ty k) (option_map sort_ty l)))
    (of_test (and_test s t))
and_has s t k l h i = grind arith

and_safe : (s t : Test) → SafeTest s → (SaysTrue s → SafeTest t) → SafeTest (and_test s t)
and_safe s t h i = grind arith

and_true : (s t : Test) → SaysTrue (and_test s t) → SaysTrue s × SaysTrue t
and_true s t h = grind arith

and_sure : (k l : BoolSort) → IsSure (Some (sides_type conjunction (sort_ty k) (sort_ty l))) → SureSort (Some k) × SureSort (Some l)
and_sure k l h = grind arith

false_has : (s t : Test) → TestHas s (Some OnlyFalse) → HasFound (Some (TBool False)) (of_test (and_test s t))
false_has s t h = grind arith

false_safe : (s t : Test) → TestHas s (Some OnlyFalse) → SafeTest s → SafeTest (and_test s t)
false_safe s t h i = grind arith

-- the sort of an accepted type, by a test that only one sort passes
says_sort : (test : Ty → Bool) (x : Option Ty) (k : BoolSort) → ((l : BoolSort) → test (sort_ty l) ≡ true → l ≡ k)
    → x ≡ option_map sort_ty (sort_of x) → annotation_passes test x ≡ true → sort_of x ≡ Some k
says_sort test x k only e h = go (sort_of x) (sym (ap (annotation_passes test) e) ∙ h)
  where
    go : (s : Option BoolSort) → annotation_passes test (option_map sort_ty s) ≡ true → s ≡ Some k
    go None n = cc
    go (Some l) n = ap Some (only l n)

pub only_false : (l : BoolSort) → is_false (sort_ty l) ≡ true → l ≡ OnlyFalse
only_false NoValue h = cc
only_false AnyValue h = cc
only_false OnlyTrue h = cc
only_false OnlyFalse h = refl

pub only_true : (l : BoolSort) → is_true (sort_ty l) ≡ true → l ≡ OnlyTrue
only_true NoValue h = cc
only_true AnyValue h = cc
only_true OnlyTrue h = refl
only_true OnlyFalse h = cc

pub false_sort : (x : Option Ty) → x ≡ option_map sort_ty (sort_of x) → annotation_passes is_false x ≡ true → sort_of x ≡ Some OnlyFalse
false_sort x e h = says_sort is_false x OnlyFalse only_false e h

pub true_sort : (x : Option Ty) → x ≡ option_map sort_ty (sort_of x) → annotation_passes is_true x ≡ true → sort_of x ≡ Some OnlyTrue
true_sort x e h = says_sort is_true x OnlyTrue only_true e h

module _ (world : World) where
  -- a derived Boolean, as a test
  pub record Derived (o : Outcome) (t : Ty) (c : Caps) : Type 0 where
    pub sort : BoolSort
    pub is : t ≡ sort_ty sort
    pub test : SoundTest world (test_of o) true (Some sort) c

  pub derived_test : (o : Outcome) (t : Ty) (c : Caps) → accepts bool_types t ≡ true → Sound world o true (Some t) c → Derived o t c
  derived_test o t c h s =
      let k = accepted_sort t h in
      let P : Ty → Type 0 = λ t. Sound world o true (Some t) c in
      record { sort = k.0; is = k.1; test = sorted world o true k.0 c (subst P k.1 s) }

  -- a success, as a test
  pub of_test_sound : (s : Test) (t : Ty) (c : Caps) → HasFound (Some t) (of_test s) → SafeTest s
      → (SaysTrue s → AllHold world c) → (IsSure (Some t) → AllHold world c)
      → Sound world (of_test s) true (Some t) c
  of_test_sound s t c typed safe caps_hold_if_true caps_hold_at_true = record {
    typed = typed;
    safe = λ h. of_test_safe s safe;
    caps_hold_if_true = λ h. caps_hold_if_true (of_test_true s h);
    caps_hold_at_true = caps_hold_at_true;
  }

  -- a promise that follows at the type t follows at each type equal to it
  pub at_type : (t s : Ty) (o p : Outcome) (c c' : Caps) → s ≡ t → (Sound world o true (Some t) c → Sound world p true (Some t) c')
      → Sound world o true (Some s) c → Sound world p true (Some s) c'
  at_type t s o p c c' e f h =
      let P : Ty → Type 0 = λ s. Sound world o true (Some s) c → Sound world p true (Some s) c' in
      subst P (sym e) f h

  -- a left side that failed and ends the whole may stand for the whole
  pub ended_failed : (env : TypeEnv) (l : Option Loc) (o p : Outcome) (A : Judgment) → Sounds world o A
      → (k : Caps) (a : TypedTree) (es : List Finding) → Operand env bool_types l A false k a es
      → (sort : BoolSort) → sort_of (annotation a) ≡ Some sort → (TestHas (test_of o) (Some sort) → HasFound (Some (sort_ty sort)) p)
      → (place : Option Loc) → Sound world p false (annotation (at_place place a)) no_caps
  ended_failed env l o p A left k a es i sort e has place =
      let h = tested_operand world o env l A left false k a es i in
      let P : Option BoolSort → Type 0 = λ s. TestHas (test_of o) s in
      let Q : Option Ty → Type 0 = λ t. Sound world p false t no_caps in
      let f : annotation a ≡ Some (sort_ty sort) = operand_sort world o env l A false k a es i ∙ ap (option_map sort_ty) e in
      subst Q (sym (annotation-at_place place a ∙ f)) (refused_sound world p _ (has (subst P e h.typed)))

  -- ---- `&&`

  and_hold : (k l : BoolSort) (c c' : Caps) → AllHold world c → AllHold world c'
      → AllHold world (sides_caps conjunction (sort_ty k) (sort_ty l) c c')
  and_hold k OnlyTrue c c' h i = hold_either world c c' h i
  and_hold k OnlyFalse c c' h i = hold_none world
  and_hold NoValue NoValue c c' h i = hold_either world c c' h i
  and_hold NoValue AnyValue c c' h i = hold_either world c c' h i
  and_hold k l c c' h i = hold_either world c c' h i

  and_success : (s t : Test) (k l : BoolSort) (c c' : Caps) → SoundTest world s true (Some k) c
      → (AllHold world c → SoundTest world t true (Some l) c')
      → Sound world (of_test (and_test s t)) true (Some (sides_type conjunction (sort_ty k) (sort_ty l)))
      (sides_caps conjunction (sort_ty k) (sort_ty l) c c')
  and_success s t k l c c' h i = of_test_sound (and_test s t) _ _
      (and_has s t (Some k) (Some l) h.typed (λ n. (i (h.caps_hold_if_true n)).typed))
      (and_safe s t (h.safe refl) (λ n. (i (h.caps_hold_if_true n)).safe refl))
      (λ n. let p = and_true s t n in and_hold k l c c' (h.caps_hold_if_true p.0) ((i (h.caps_hold_if_true p.0)).caps_hold_if_true p.1))
      (λ n. let p = and_sure k l n in and_hold k l c c' (h.caps_hold_at_true p.0) ((i (h.caps_hold_at_true p.0)).caps_hold_at_true p.1))

  module _ (env : TypeEnv) (m : Written) (l l' : Option Loc) (o o' : Outcome) (A : Judgment) (B : Caps → Judgment)
      (prior : Caps) (held : AllHold world prior)
      (left : Sounds world o A) (right : (p : Caps) → AllHold world p → Sounds world o' (B p)) where
    abbrev Rules : Judgment
    Rules = short_circuit_rules env conjunction m l l' A B prior

    abbrev both : Outcome
    both = of_test (and_test (test_of o) (test_of o'))

    false_left : (s : Ty) (c : Caps) → is_false s ≡ true → Sound world o true (Some s) c → Sound world both true (Some s) no_caps
    false_left s c e = at_type (TBool False) s o both c no_caps (false_type s e) by_false
      where
        by_false : Sound world o true (Some (TBool False)) c → Sound world both true (Some (TBool False)) no_caps
        by_false s =
            let h = sorted world o true OnlyFalse c s in
            of_test_sound _ _ _ (false_has (test_of o) (test_of o') h.typed)
            (false_safe (test_of o) (test_of o') h.typed (h.safe refl)) (λ n. hold_none world) (λ n. absurd n)

    and_derived : (t : Ty) (c : Caps) (x : TypedTree) → Rules.derives t c x → Sound world both true (Some t) c
    and_derived t c x (left_ends {s = s} {c = k} {a = a} d p e) = false_left s k e (left.derivations _ _ _ d)
    and_derived t c x (both_sides {s = s} {t = u} {c = k} {c' = k'} d p n d' q) =
        let f = derived_test o s k p (left.derivations _ _ _ d) in
        let g = accepted_sort u q in
        let P : Ty → Type 0 = λ u. (AllHold world k → Sound world o' true (Some u) k') in
        let i : AllHold world k → Sound world o' true (Some (sort_ty g.0)) k' = subst P g.1
        (λ h. (right (union prior k) (hold_either world prior k held h)).derivations _ _ _ d') in
        let Q : Ty × Ty → Type 0 = λ y. Sound world both true (Some (sides_type conjunction y.0 y.1))
        (sides_caps conjunction y.0 y.1 k k') in
        subst Q (λ j. (sym f.is j, sym g.1 j))
        (and_success (test_of o) (test_of o') f.sort g.0 k k' f.test (λ h. sorted world o' true g.0 k' (i h)))

    and_recovery : (x : TypedTree) (es : List Finding) → Rules.recovers x es → Sound world both false (annotation x) no_caps
    and_recovery x es (left_ends_failed {c = k} {a = a} p n) =
        ended_failed env l o both A left k a es p OnlyFalse
        (false_sort (annotation a) (operand_sort world o env l A false k a es p) n) (false_has (test_of o) (test_of o')) m.place
    and_recovery x es
        (side_failed {succeeded = succeeded} {succeeded' = succeeded'} {c = k} {c' = k'} {a = a} {b = b} {es = fs} {es' = fs'}
        p n p' q) =
        let h = tested_operand world o env l A left succeeded k a fs p in
        let i = λ (t : SaysTrue (test_of o)). tested_operand world o' env l' (B (union prior k))
        (right (union prior k) (hold_either world prior k held (h.caps_hold_if_true t)))
        succeeded' k' b fs' p' in
        let e = operand_sort world o env l A succeeded k a fs p in
        let e' = operand_sort world o' env l' (B (union prior k)) succeeded' k' b fs' p' in
        let Q : Option Ty × Option Ty → Type 0 = λ y. HasFound (Some (sides_annotation conjunction y.0 y.1)) both in
        refused_sound world both
        _ (subst Q (λ j. (sym e j, sym e' j))
        (and_has (test_of o) (test_of o') (sort_of (annotation a)) (sort_of (annotation b))
        h.typed (λ t. (i t).typed)))

    and_marks : (t : Ty) (c : Caps) (x : TypedTree) → Rules.derives t c x → annotation x ≡ Some t
    and_marks t c x (left_ends {a = a} d p e) = annotation-at_place m.place a ∙ left.marks _ _ _ d
    and_marks t c x (both_sides d p n d' q) = refl

    pub and_sounds : Sounds world both Rules
    and_sounds = record { derivations = and_derived; recoveries = and_recovery; marks = and_marks }
