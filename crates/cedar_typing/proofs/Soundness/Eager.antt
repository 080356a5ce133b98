-- A form whose operands are all typed first does not go wrong if its table keeps its promise: one
-- proof for all such forms.
use Rattle.std.proofs.Common.{◌≡◌, Bool, true, false, List, [], ◌∷◌, Option, Some, None, refl, sym, ap, subst}
use Rattle.cedar_types.specs.declared.base.location.Loc.{Loc}
use Rattle.cedar_types.specs.Types.{Ty}
use Rattle.cedar_types.specs.Errors.{Finding}
use Rattle.cedar_typing.specs.Capabilities.{Caps, no_caps}
use Rattle.cedar_typing.specs.Eager.{Expectation, meets, Decision, gives, refuses, Form, first_expectation, later_expectations, types_found}
use Rattle.cedar_typing.specs.Evaluation.Conformance.{AllHold}
use Rattle.cedar_typing.specs.Evaluation.World.{World, Outcome}
use Rattle.cedar_typing.specs.Judgments.{Judgment}
use Rattle.cedar_typing.specs.Rules.Eager.{Judgments, NoneDerived, none_derived, NoneGiven, none_given, no_operands, ExpectedOperand}
use Rattle.cedar_typing.specs.Rules.Eager.{also_derived, also_given, one_more, eager_typed, operand_failed, table_refused, eager_rules}
use Rattle.cedar_typing.specs.Rules.Eager.{one_operand_rules, two_operand_rules}
use Rattle.cedar_typing.specs.Soundness.{HasFound, IsSafe, IsTrueOutcome}
use Rattle.cedar_typing.specs.TypeEnv.{TypeEnv}
use Rattle.cedar_typing.specs.TypedExpr.{TypedTree, Mark, mark_of, typed, typed_as, annotation}
use Rattle.cedar_typing.proofs.KeptTypes.Eager.{decided_type, expected_kept}
use Rattle.cedar_typing.proofs.KeptTypes.Keeping.{HasKept, AllKept}
use Rattle.cedar_typing.proofs.KeptTypes.Rules.{KeepsTypes}
use Rattle.cedar_typing.proofs.KeptTypes.Types.{KeptIn}
use Rattle.cedar_typing.proofs.Soundness.Parts.{IsSure, Sound, Sounds, IsAccepted, refused_sound, part_sound, operand_sound}
use Rattle.cedar_typing.proofs.Soundness.Parts.{operand_accepted}

-- ---- facts about operands

-- each outcome's value, if there is one, has the type that was found, if one was
abbrev pub AllHave : List (Option Ty) → List Outcome → Type 0
AllHave [] [] = Unit {0}
AllHave [] (o ∷ os) = ⊥
AllHave (t ∷ ts) [] = ⊥
AllHave (t ∷ ts) (o ∷ os) = HasFound t o × AllHave ts os

abbrev pub AllSafe : List Outcome → Type 0
AllSafe [] = Unit {0}
AllSafe (o ∷ os) = IsSafe o × AllSafe os

-- a type was found
abbrev pub IsFound : Option Ty → Type 0
IsFound None = ⊥
IsFound (Some t) = Unit {0}

abbrev pub AllFound : List (Option Ty) → Type 0
AllFound [] = Unit {0}
AllFound (t ∷ ts) = IsFound t × AllFound ts

-- the type, if one was found, is an expected one
abbrev pub Meets : Expectation → Option Ty → Type 0
Meets q None = Unit {0}
Meets q (Some t) = meets q t ≡ true

abbrev pub AllMeet : List Expectation → List (Option Ty) → Type 0
AllMeet qs [] = Unit {0}
AllMeet qs (t ∷ ts) = Meets (first_expectation qs) t × AllMeet (later_expectations qs) ts

-- ---- the promise on a form, if its operands result in os and it in o

-- the operands' types: each value has its type, and each type is expected
pub record AreTypes (f : Form) (os : List Outcome) (ts : List (Option Ty)) : Type 0 where
  pub have : AllHave ts os
  pub meet : AllMeet f.expects ts

-- the promise on the type that the table gives, if a type was found of each operand
pub record SoundGift (world : World) (os : List Outcome) (o : Outcome) (t : Ty) (c : Caps) : Type 0 where
  pub safe : AllSafe os → IsSafe o
  pub caps_hold_if_true : IsTrueOutcome o → AllHold world c
  pub caps_hold_at_true : IsSure (Some t) → AllHold world c

abbrev pub GiftIsSound : World → List Outcome → Outcome → Decision → Type 0
GiftIsSound world os o (gives t c) = SoundGift world os o t c
GiftIsSound world os o (refuses t fs) = Unit {0}

pub record SoundForm (world : World) (f : Form) (os : List Outcome) (o : Outcome) : Type 0 where
  pub typed : (ts : List (Option Ty)) → AreTypes f os ts → HasFound (decided_type (f.decides ts)) o
  pub succeeds : (ts : List (Option Ty)) → AreTypes f os ts → AllFound ts → GiftIsSound world os o (f.decides ts)
  -- the promise on the type that stays if an operand failed
  pub failed : (t : Ty) → HasFound (Some t) o → HasFound (Some (f.type_if_failed t)) o

-- a form of two operands, by the types that were found of them
pub of_two : (world : World) (f : Form) (o p whole : Outcome)
    → ((ts : List (Option Ty)) → HasFound (decided_type (f.decides (None ∷ ts))) whole)
    → ((s : Ty) (ts : List (Option Ty)) → HasFound (Some s) o → HasFound (decided_type (f.decides (Some s ∷ ts))) whole)
    → ((s t : Ty) (ts : List (Option Ty)) → AreTypes f (o ∷ p ∷ []) (Some s ∷ Some t ∷ ts)
    → GiftIsSound world (o ∷ p ∷ []) whole (f.decides (Some s ∷ Some t ∷ ts)))
    → ((t : Ty) → HasFound (Some t) whole → HasFound (Some (f.type_if_failed t)) whole)
    → SoundForm world f (o ∷ p ∷ []) whole
of_two world f o p whole none found gift failed = record { typed = typed; succeeds = succeeds; failed = failed }
  where
    typed : (ts : List (Option Ty)) → AreTypes f (o ∷ p ∷ []) ts → HasFound (decided_type (f.decides ts)) whole
    typed [] q = absurd q.have
    typed (None ∷ ts) q = none ts
    typed (Some s ∷ ts) q = found s ts q.have.0

    succeeds : (ts : List (Option Ty)) → AreTypes f (o ∷ p ∷ []) ts → AllFound ts → GiftIsSound world (o ∷ p ∷ []) whole (f.decides ts)
    succeeds [] q i = absurd q.have
    succeeds (None ∷ ts) q i = absurd i.0
    succeeds (Some s ∷ []) q i = absurd q.have.1
    succeeds (Some s ∷ None ∷ ts) q i = absurd i.1.0
    succeeds (Some s ∷ Some t ∷ ts) q i = gift s t ts q

-- the promise on a form, if typing keeps to the types of the operands
pub record SoundKeptForm (strictly : Bool) (world : World) (f : Form) (os : List Outcome) (o : Outcome) : Type 0 where
  pub typed : (ts : List (Option Ty)) → AreTypes f os ts → AllKept (KeptIn strictly) ts → HasFound (decided_type (f.decides ts)) o
  pub succeeds : (ts : List (Option Ty)) → AreTypes f os ts → AllKept (KeptIn strictly) ts → AllFound ts
      → GiftIsSound world os o (f.decides ts)
  pub failed : (t : Ty) → HasFound (Some t) o → HasFound (Some (f.type_if_failed t)) o

pub of_any : (strictly : Bool) (world : World) (f : Form) (os : List Outcome) (o : Outcome) → SoundForm world f os o
    → SoundKeptForm strictly world f os o
of_any strictly world f os o s = record { typed = λ ts a n. s.typed ts a; succeeds = λ ts a n. s.succeeds ts a; failed = s.failed }

-- ---- an operand that has to be of certain types, or may be anything

meets_none : (o : Option Ty) → Meets None o
meets_none None = tt
meets_none (Some t) = refl

meets_some : (ts : List Ty) (o : Option Ty) → IsAccepted ts o → Meets (Some ts) o
meets_some ts None h = tt
meets_some ts (Some t) h = h

module _ (J : Judgment) (env : TypeEnv) where
  expected_sound : (world : World) (o : Outcome) → Sounds world o J → (q : Expectation) (l : Option Loc)
      (succeeded : Bool) (c : Caps) (x : TypedTree) (es : List Finding) → ExpectedOperand env q l J succeeded c x es
      → Sound world o succeeded (annotation x) c
  expected_sound world o s None l succeeded c x es p = part_sound world o J s succeeded c x es p
  expected_sound world o s (Some ts) l succeeded c x es p = operand_sound world o J s env ts l succeeded c x es p

  expected_meets : (q : Expectation) (l : Option Loc) (succeeded : Bool) (c : Caps) (x : TypedTree)
      (es : List Finding) → ExpectedOperand env q l J succeeded c x es → Meets q (annotation x)
  expected_meets None l succeeded c x es p = meets_none (annotation x)
  expected_meets (Some ts) l succeeded c x es p = meets_some ts (annotation x) (operand_accepted J env ts l succeeded c x es p)

-- ---- operands, one after another

pub record AreSound (strictly : Bool) (qs : List Expectation) (os : List Outcome) (ts : List (Option Ty)) : Type 0 where
  pub have : AllHave ts os
  pub meet : AllMeet qs ts
  pub single : AllKept (KeptIn strictly) ts

pub record SoundsAll (strictly : Bool) (world : World) (qs : List Expectation) (os : List Outcome) (Js : Judgments) : Type 0 where
  pub derivations : (xs : List TypedTree) → Js.derive xs → AreSound strictly qs os (types_found xs) × AllFound (types_found xs) × AllSafe os
  pub givings : (b : Bool) (xs : List TypedTree) (es : List Finding) → Js.give b xs es → AreSound strictly qs os (types_found xs)

no_derivations : (strictly : Bool) (qs : List Expectation) (xs : List TypedTree) → NoneDerived xs
    → AreSound strictly qs [] (types_found xs) × AllFound (types_found xs) × AllSafe []
no_derivations strictly qs xs none_derived = (record { have = tt; meet = tt; single = tt }, tt, tt)

no_givings : (strictly : Bool) (qs : List Expectation) (b : Bool) (xs : List TypedTree) (es : List Finding)
    → NoneGiven b xs es → AreSound strictly qs [] (types_found xs)
no_givings strictly qs b xs es none_given = record { have = tt; meet = tt; single = tt }

pub none_sounds : (strictly : Bool) (world : World) (qs : List Expectation) → SoundsAll strictly world qs [] no_operands
none_sounds strictly world qs = record { derivations = no_derivations strictly qs; givings = no_givings strictly qs }

module _ (strictly : Bool) (world : World) (env : TypeEnv) (goes_on : Bool) (qs : List Expectation) (l : Option Loc)
    (o : Outcome) (J : Judgment) (operand : Sounds world o J) (single : KeepsTypes (KeptIn strictly) J)
    (os : List Outcome) (Js : Judgments) (others : SoundsAll strictly world (later_expectations qs) os Js) where
  abbrev More : Judgments
  More = one_more env goes_on (first_expectation qs) l J Js

  more_derivations : (xs : List TypedTree) → More.derive xs → AreSound strictly qs (o ∷ os) (types_found xs)
      × AllFound (types_found xs) × AllSafe (o ∷ os)
  more_derivations xs (also_derived {t = t} {c = c} {x = x} {xs = ys} d h ds) =
      let s = operand.derivations t c x d in
      let e = sym (operand.marks t c x d) in
      let r = others.derivations ys ds in (
        record {
          have = (subst (λ y. HasFound y o) e s.typed, r.0.have);
          meet = (subst (Meets (first_expectation qs)) e h, r.0.meet);
          single = (subst (HasKept (KeptIn strictly)) e (single.derivations t c x d), r.0.single);
        },
        (subst IsFound e tt, r.1),
        (s.safe refl, r.2),
      )

  more_givings : (b : Bool) (xs : List TypedTree) (es : List Finding) → More.give b xs es → AreSound strictly qs (o ∷ os) (types_found xs)
  more_givings b xs es (also_given {succeeded = s} {later = s'} {c = c} {x = x} {xs = ys} {es = before} {es' = after} p hs) =
      let r = others.givings s' ys after hs in
      record {
        have = ((expected_sound J env world o operand (first_expectation qs) l s c x before p).typed, r.have);
        meet = (expected_meets J env (first_expectation qs) l s c x before p, r.meet);
        single = (expected_kept (KeptIn strictly) J single env (first_expectation qs) l s c x before p, r.single);
      }

  pub more_sounds : SoundsAll strictly world qs (o ∷ os) More
  more_sounds = record { derivations = more_derivations; givings = more_givings }

-- ---- a form

module _ (strictly : Bool) (world : World) (f : Form)
    (node_mark : (k : Mark) (xs : List TypedTree) → mark_of (f.node k xs) ≡ k) (os : List Outcome) (o : Outcome)
    (form : SoundKeptForm strictly world f os o) (Js : Judgments)
    (operands : SoundsAll strictly world f.expects os Js) where
  abbrev Whole : Judgment
  Whole = eager_rules f Js

  at_root : (k : Mark) (xs : List TypedTree) → annotation (f.node k xs) ≡ k.ty
  at_root k xs = ap (λ (z : Mark). z.ty) (node_mark k xs)

  types_of : (ts : List (Option Ty)) → AreSound strictly f.expects os ts → AreTypes f os ts
  types_of ts a = record { have = a.have; meet = a.meet }

  form_derived : (t : Ty) (c : Caps) (x : TypedTree) → Whole.derives t c x → Sound world o true (Some t) c
  form_derived t c x (eager_typed {xs = xs} ds e) =
      let d = operands.derivations xs ds in
      let a = types_of (types_found xs) d.0 in
      let g = subst (GiftIsSound world os o) e (form.succeeds (types_found xs) a d.0.single d.1) in
      record {
        typed = subst (λ z. HasFound (decided_type z) o) e (form.typed (types_found xs) a d.0.single);
        safe = λ h. g.safe d.2;
        caps_hold_if_true = g.caps_hold_if_true;
        caps_hold_at_true = g.caps_hold_at_true;
      }

  -- the promise on a whole whose table gives a type, although an operand failed
  failed_stays : (xs : List TypedTree) (es : List Finding) (t : Ty) (c : Caps) → Js.give false xs es
      → f.decides (types_found xs) ≡ gives t c
      → Sound world o false (annotation (f.node (typed (f.type_if_failed t) f.at) xs)) no_caps
  failed_stays xs es t c h e =
      let g = operands.givings false xs es h in
      let a = types_of (types_found xs) g in
      let P : Option Ty → Type 0 = λ y. Sound world o false y no_caps in
      subst P (sym (at_root (typed (f.type_if_failed t) f.at) xs))
      (refused_sound world o (Some (f.type_if_failed t))
      (form.failed t (subst (λ y. HasFound (decided_type y) o) e (form.typed (types_found xs) a g.single))))

  -- the promise on a whole whose table refuses
  stays : (b : Bool) (xs : List TypedTree) (es : List Finding) (z : Decision) (k : Mark) → Js.give b xs es
      → f.decides (types_found xs) ≡ z → k.ty ≡ decided_type z
      → Sound world o false (annotation (f.node k xs)) no_caps
  stays b xs es z k h e m =
      let g = operands.givings b xs es h in
      let a = types_of (types_found xs) g in
      let P : Option Ty → Type 0 = λ y. Sound world o false y no_caps in
      subst P (sym (at_root k xs))
      (subst P (sym m) (refused_sound world o (decided_type z)
      (subst (λ y. HasFound (decided_type y) o) e (form.typed (types_found xs) a g.single))))

  form_recovery : (x : TypedTree) (es : List Finding) → Whole.recovers x es → Sound world o false (annotation x) no_caps
  form_recovery x es (operand_failed {t = t} {c = c} {xs = xs} h e) = failed_stays xs es t c h e
  form_recovery x es (table_refused {succeeded = s} {t = t} {fs = fs} {xs = xs} {es = before} h e) =
      stays s xs before (refuses t fs) (typed_as t f.at) h e refl

  form_marks : (t : Ty) (c : Caps) (x : TypedTree) → Whole.derives t c x → annotation x ≡ Some t
  form_marks t c x (eager_typed {xs = xs} ds e) = at_root (typed t f.at) xs

  pub form_sounds : Sounds world o Whole
  form_sounds = record { derivations = form_derived; recoveries = form_recovery; marks = form_marks }

-- a form with one operand
pub one_operand_sounds : (strictly : Bool) (world : World) (env : TypeEnv) (f : Form)
    → ((k : Mark) (xs : List TypedTree) → mark_of (f.node k xs) ≡ k) → (l : Option Loc) (o o' : Outcome)
    (J : Judgment) → SoundKeptForm strictly world f (o ∷ []) o' → Sounds world o J → KeepsTypes (KeptIn strictly) J
    → Sounds world o' (one_operand_rules env f l J)
one_operand_sounds strictly world env f node_mark l o o' J form s n =
    form_sounds strictly world f node_mark
    (o ∷ []) o' form _ (more_sounds strictly world env f.goes_on f.expects l o J s n [] no_operands
    (none_sounds strictly world (later_expectations f.expects)))

-- a form with two operands
pub two_operands_sound : (strictly : Bool) (world : World) (env : TypeEnv) (f : Form)
    → ((k : Mark) (xs : List TypedTree) → mark_of (f.node k xs) ≡ k) → (l l' : Option Loc) (o o' o'' : Outcome)
    (J J' : Judgment) → SoundKeptForm strictly world f (o ∷ o' ∷ []) o''
    → Sounds world o J → KeepsTypes (KeptIn strictly) J → Sounds world o' J' → KeepsTypes (KeptIn strictly) J'
    → Sounds world o'' (two_operand_rules env f l l' J J')
two_operands_sound strictly world env f node_mark l l' o o' o'' J J' form s n s' n' =
    let later = later_expectations f.expects in
    let right = more_sounds strictly world env f.goes_on later l' o' J' s' n' [] no_operands
    (none_sounds strictly world (later_expectations later)) in
    form_sounds strictly world f node_mark (o ∷ o' ∷ [])
    o'' form _ (more_sounds strictly world env f.goes_on f.expects l o J s n (o' ∷ []) _ right)
