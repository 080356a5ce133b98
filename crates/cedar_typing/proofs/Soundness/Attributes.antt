-- `has` and `.` do not go wrong.
use Rattle.std.proofs.Common.{◌≡◌, Bool, true, false, ◌||◌, ◌&&◌, List, [], ◌∷◌, Option, Some, None, if◌then◌else◌, refl, sym, subst}
use Rattle.cedar_types.specs.declared.base.types.BoolType.TheVariants.{AnyBool, True, False}
use Rattle.cedar_types.specs.Names.{Text}
use Rattle.cedar_types.specs.Types.{Ty, TBool}
use Rattle.cedar_types.specs.Expressions.Tree.{has_attr, get_attr}
use Rattle.cedar_types.specs.Expressions.View.{Written}
use Rattle.cedar_types.specs.Types.Lookups.{attribute_type, may_have}
use Rattle.cedar_types.specs.Environments.RequestEnvs.{is_partial}
use Rattle.cedar_types.specs.Values.Stores.{ConformingStore}
use Rattle.cedar_types.specs.Errors.{Finding}
use Rattle.cedar_typing.specs.Capabilities.{Caps, no_caps, single}
use Rattle.cedar_typing.specs.Eager.{gives, refuses}
use Rattle.cedar_typing.specs.Evaluation.Conformance.{SaysTrue, HasAttribute, AllHold}
use Rattle.cedar_typing.specs.Evaluation.Eval.{has_test, get, eval}
use Rattle.cedar_typing.specs.Evaluation.Outcomes.{Test, Says, Stops, of_test, on_value, then_test}
use Rattle.cedar_typing.specs.Evaluation.World.{World, Outcome, Gives, Fails}
use Rattle.cedar_typing.specs.Rules.Attributes.{attribute_of, has_decides, get_decides, has_form, get_form}
use Rattle.cedar_typing.specs.Soundness.{HasFound, IsSafe, IsTrueOutcome}
use Rattle.cedar_typing.specs.TypeEnv.{TypeEnv}
use Rattle.cedar_typing.specs.TypeTests.{accepts, object_types, is_record}
use Rattle.cedar_typing.specs.TypedExpr.{Source}
use Rattle.cedar_typing.proofs.Basics.{or_cases}
use Rattle.cedar_typing.proofs.Bounds.Attributes.{Joins}
use Rattle.cedar_typing.proofs.KeptTypes.Eager.{decided_type}
use Rattle.cedar_typing.proofs.KeptTypes.Keeping.{AllKept}
use Rattle.cedar_typing.proofs.KeptTypes.Types.{KeptIn}
use Rattle.cedar_typing.proofs.Soundness.Capabilities.{eval_form, hold_none, hold_just}
use Rattle.cedar_typing.proofs.Soundness.Eager.{AreTypes, GiftIsSound, AllFound, SoundForm, SoundKeptForm}
use Rattle.cedar_typing.proofs.Soundness.Parts.{IsSure}
use Rattle.cedar_typing.proofs.Values.Attributes.{get_typed, get_safe, required_has, has_says, has_not}

-- ---- tests

any_test : (t : Test) → HasFound (Some (TBool AnyBool)) (of_test t)
any_test (Says b) = tt
any_test (Stops f) = tt

true_test : (t : Test) → SaysTrue t → HasFound (Some (TBool True)) (of_test t)
true_test (Says b) h = h
true_test (Stops f) h = absurd h

false_test : (t : Test) → t ≡ Says false → HasFound (Some (TBool False)) (of_test t)
false_test t e = subst (λ t. HasFound (Some (TBool False)) (of_test t)) (sym e) refl

test_told : (t : Test) → IsTrueOutcome (of_test t) → SaysTrue t
test_told (Says b) h = h
test_told (Stops f) h = absurd h

if_sure : (b : Bool) → IsSure (Some (if b then TBool True else TBool AnyBool)) → b ≡ true
if_sure true h = refl
if_sure false h = absurd h

both_cases : (a b : Bool) (P : Type 0) → (a ≡ true → b ≡ true → P) → (a && b) ≡ true → P
both_cases true b P f h = f refl h
both_cases false b P f h = cc

-- ---- an attribute of an outcome

module _ (env : TypeEnv) (world : World) (conforms : ConformingStore env.schema world.store) (x : Text) where
  abbrev whole_has : Outcome → Outcome
  whole_has o = of_test (then_test o (has_test world.store x))

  abbrev whole_get : Outcome → Outcome
  whole_get o = on_value o (get world.store x)

  any_has : (o : Outcome) → HasFound (Some (TBool AnyBool)) (whole_has o)
  any_has (Gives v) = any_test (has_test world.store x v)
  any_has (Fails f) = tt

  true_has : (o : Outcome) → HasAttribute world.store x o → HasFound (Some (TBool True)) (whole_has o)
  true_has (Gives v) h = true_test (has_test world.store x v) h
  true_has (Fails f) h = tt

  false_has : (s : Ty) (o : Outcome) → HasFound (Some s) o → accepts object_types s ≡ true
      → may_have env.schema s x ≡ false → HasFound (Some (TBool False)) (whole_has o)
  false_has s (Gives v) h a n = false_test (has_test world.store x v) (has_not env.schema x world.store conforms s v a h n)
  false_has s (Fails f) h a n = tt

  has_told : (o : Outcome) → IsTrueOutcome (whole_has o) → HasAttribute world.store x o
  has_told (Gives v) h = test_told (has_test world.store x v) h
  has_told (Fails f) h = tt

  has_safe : (s : Ty) (o : Outcome) → HasFound (Some s) o → accepts object_types s ≡ true → IsSafe o → IsSafe (whole_has o)
  has_safe s (Gives v) h a g =
      let c = has_says env.schema x world.store conforms s v a h in
      subst (λ t. IsSafe (of_test t)) (sym c.1) tt
  has_safe s (Fails f) h a g = g

  required_there : (s t : Ty) (r : Bool) (o : Outcome) → HasFound (Some s) o
      → attribute_type env.schema s x ≡ Some (t, r) → r ≡ true → is_record s ≡ true → HasAttribute world.store x o
  required_there s t r (Gives v) h e f i =
      let P : Bool → Type 0 = λ q. attribute_type env.schema s x ≡ Some (t, q) in
      required_has env.schema x world.store conforms s t v i h (subst P f e)
  required_there s t r (Fails f) h e g i = tt

  -- the attribute is there if `has` is True
  sure_there : (s t : Ty) (r known : Bool) (o : Outcome) → (known ≡ true → HasAttribute world.store x o)
      → HasFound (Some s) o → attribute_type env.schema s x ≡ Some (t, r) → (known || (r && is_record s)) ≡ true
      → HasAttribute world.store x o
  sure_there s t r known o k h e =
      or_cases known (r && is_record s) (HasAttribute world.store x o) k
      (both_cases r (is_record s) (HasAttribute world.store x o) (required_there s t r o h e))

  declared_typed : (b : Bool) (o : Outcome) → (b ≡ true → HasAttribute world.store x o)
      → HasFound (Some (if b then TBool True else TBool AnyBool)) (whole_has o)
  declared_typed true o h = true_has o (h refl)
  declared_typed false o h = any_has o

  undeclared_typed : (s : Ty) (b : Bool) (o : Outcome) → HasFound (Some s) o → accepts object_types s ≡ true
      → may_have env.schema s x ≡ b → HasFound (Some (if b then TBool AnyBool else TBool False)) (whole_has o)
  undeclared_typed s true o h a e = any_has o
  undeclared_typed s false o h a e = false_has s o h a e

  got_typed : (s t : Ty) (r : Bool) (o : Outcome) → Joins env.schema s → HasFound (Some s) o
      → attribute_type env.schema s x ≡ Some (t, r) → HasFound (Some t) (whole_get o)
  got_typed s t r (Gives v) j h e = get_typed env.schema x world.store conforms s t r v j h e
  got_typed s t r (Fails f) j h e = tt

  got_safe : (s t : Ty) (r known : Bool) (o : Outcome) → (known ≡ true → HasAttribute world.store x o)
      → Joins env.schema s → HasFound (Some s) o → attribute_type env.schema s x ≡ Some (t, r) → (r || known) ≡ true
      → IsSafe o → IsSafe (whole_get o)
  got_safe s t r known (Gives v) k j h e g f = get_safe env.schema x world.store conforms s t r known v j h e k g
  got_safe s t r known (Fails z) k j h e g f = f

-- ---- `has` and `.`

module _ (env : TypeEnv) (world : World) (conforms : ConformingStore env.schema world.store) (m : Written)
    (prior : Caps) (hold : AllHold world prior) (e : Source) (x : Text) where
  abbrev base : Outcome
  base = eval world e

  abbrev known : Bool
  known = prior (attribute_of e x)

  -- a known capability holds, as the attribute is there
  known_there : known ≡ true → HasAttribute world.store x base
  known_there k = subst (HasAttribute world.store x) (eval_form world e) (hold (attribute_of e x) k)

  -- the capability that `has` produces holds if the attribute is there
  there_holds : HasAttribute world.store x base → AllHold world (single (attribute_of e x))
  there_holds h = hold_just world (attribute_of e x) (subst (HasAttribute world.store x) (sym (eval_form world e)) h)

  module _ (s : Ty) (h : HasFound (Some s) base) (accepted : accepts object_types s ≡ true) where
    has_decided : (a : Option (Ty × Bool)) → attribute_type env.schema s x ≡ a
        → HasFound (decided_type (has_decides env x (attribute_of e x) known s a)) (eval world (has_attr m e x))
    has_decided (Some a) q =
        declared_typed env world conforms x (known || (a.1 && is_record s)) base
        (sure_there env world conforms x s a.0 a.1 known base known_there h q)
    has_decided None q = undeclared_typed env world conforms x s (may_have env.schema s x) base h accepted refl

    has_gift : (a : Option (Ty × Bool)) → attribute_type env.schema s x ≡ a
        → GiftIsSound world (base ∷ []) (eval world (has_attr m e x))
        (has_decides env x (attribute_of e x) known s a)
    has_gift (Some a) q = record {
      safe = λ g. has_safe env world conforms x s base h accepted g.0;
      caps_hold_if_true = λ g. there_holds (has_told env world conforms x base g);
      caps_hold_at_true =
          λ g. there_holds (sure_there env world conforms x s a.0 a.1 known base known_there h q
          (if_sure (known || (a.1 && is_record s)) g));
    }
    has_gift None q = record {
      safe = λ g. has_safe env world conforms x s base h accepted g.0;
      caps_hold_if_true = λ g. hold_none world;
      caps_hold_at_true = λ g. hold_none world;
    }

  pub has_sound : SoundForm world (has_form env m prior e x) (base ∷ []) (eval world (has_attr m e x))
  has_sound = record { typed = typed; succeeds = succeeds; failed = λ t h. h }
    where
      typed : (ts : List (Option Ty)) → AreTypes (has_form env m prior e x) (base ∷ []) ts
          → HasFound (decided_type ((has_form env m prior e x).decides ts)) (eval world (has_attr m e x))
      typed [] a = absurd a.have
      typed (None ∷ ts) a = any_has env world conforms x base
      typed (Some s ∷ ts) a = has_decided s a.have.0 a.meet.0 (attribute_type env.schema s x) refl

      succeeds : (ts : List (Option Ty)) → AreTypes (has_form env m prior e x) (base ∷ []) ts → AllFound ts
          → GiftIsSound world (base ∷ []) (eval world (has_attr m e x)) ((has_form env m prior e x).decides ts)
      succeeds [] a f = absurd a.have
      succeeds (None ∷ ts) a f = absurd f.0
      succeeds (Some s ∷ ts) a f = has_gift s a.have.0 a.meet.0 (attribute_type env.schema s x) refl

  module _ (total : is_partial env.mode ≡ false) (s : Ty) (h : HasFound (Some s) base) (joins : Joins env.schema s) where
    guarded_typed : (b : Bool) (t : Ty) (fs : List Finding) → HasFound (Some t) (eval world (get_attr m e x))
        → HasFound (decided_type (if b then gives t no_caps else refuses (Some t) fs)) (eval world (get_attr m e x))
    guarded_typed true t fs k = k
    guarded_typed false t fs k = k

    get_decided : (a : Option (Ty × Bool)) → attribute_type env.schema s x ≡ a
        → HasFound (decided_type (get_decides env m.place x known s a)) (eval world (get_attr m e x))
    get_decided (Some a) q = guarded_typed (a.1 || known) a.0 _ (got_typed env world conforms x s a.0 a.1 base joins h q)
    get_decided None q = rw total tt

    guarded_gift : (b : Bool) (a : Ty × Bool) (fs : List Finding) → (a.1 || known) ≡ b
        → attribute_type env.schema s x ≡ Some a
        → GiftIsSound world (base ∷ []) (eval world (get_attr m e x)) (if b then gives a.0 no_caps
        else refuses (Some a.0) fs)
    guarded_gift true a fs g q = record {
      safe = λ f. got_safe env world conforms x s a.0 a.1 known base known_there joins h q g f.0;
      caps_hold_if_true = λ f. hold_none world;
      caps_hold_at_true = λ f. hold_none world;
    }
    guarded_gift false a fs g q = tt

    get_gift : (a : Option (Ty × Bool)) → attribute_type env.schema s x ≡ a
        → GiftIsSound world (base ∷ []) (eval world (get_attr m e x)) (get_decides env m.place x known s a)
    get_gift (Some a) q = guarded_gift (a.1 || known) a _ refl q
    get_gift None q = rw total tt

  pub get_sound : (strictly : Bool) → is_partial env.mode ≡ false
      → ((s : Ty) → KeptIn strictly s → Joins env.schema s)
      → SoundKeptForm strictly world (get_form env m prior e x) (base ∷ []) (eval world (get_attr m e x))
  get_sound strictly total joins = record { typed = typed; succeeds = succeeds; failed = λ t h. h }
    where
      typed : (ts : List (Option Ty)) → AreTypes (get_form env m prior e x) (base ∷ []) ts
          → AllKept (KeptIn strictly) ts → HasFound (decided_type ((get_form env m prior e x).decides ts))
          (eval world (get_attr m e x))
      typed [] a n = absurd a.have
      typed (None ∷ ts) a n = tt
      typed (Some s ∷ ts) a n = get_decided total s a.have.0 (joins s n.0) (attribute_type env.schema s x) refl

      succeeds : (ts : List (Option Ty)) → AreTypes (get_form env m prior e x) (base ∷ []) ts
          → AllKept (KeptIn strictly) ts → AllFound ts → GiftIsSound world (base ∷ []) (eval world (get_attr m e x))
          ((get_form env m prior e x).decides ts)
      succeeds [] a n f = absurd a.have
      succeeds (None ∷ ts) a n f = absurd f.0
      succeeds (Some s ∷ ts) a n f = get_gift total s a.have.0 (joins s n.0) (attribute_type env.schema s x) refl
