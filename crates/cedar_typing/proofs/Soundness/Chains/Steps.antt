-- The promise on the rest of a chain of extended `has`: a step keeps it if the steps after it do.
use Rattle.std.proofs.Common.{◌≡◌, Bool, true, false, ◌||◌, ◌&&◌, List, [], ◌∷◌, Option, Some, None, if◌then◌else◌, refl, sym, subst}
use Rattle.std.specs.Prelude.{IsTrue}
use Rattle.cedar_types.specs.declared.base.location.Loc.{Loc}
use Rattle.cedar_types.specs.declared.base.types.BoolType.{BoolType}
use Rattle.cedar_types.specs.declared.base.types.BoolType.TheVariants.{AnyBool, True, False}
use Rattle.cedar_types.specs.Names.{Text}
use Rattle.cedar_types.specs.Lemmas.Comparisons.{and_left, and_right}
use Rattle.cedar_types.specs.Types.{Ty, TBool, TRecord, TEntity, TAnyEntity}
use Rattle.cedar_types.specs.Types.Lookups.{attribute_type, may_have}
use Rattle.cedar_types.specs.Values.Stores.{ConformingStore}
use Rattle.cedar_types.specs.Values.{VBool}
use Rattle.cedar_types.specs.Errors.{Finding}
use Rattle.cedar_typing.specs.Capabilities.{Caps, no_caps, single, union}
use Rattle.cedar_typing.specs.Eager.{Decision, gives, refuses}
use Rattle.cedar_typing.specs.Evaluation.Conformance.{SaysTrue, HasAttribute, AllHold}
use Rattle.cedar_typing.specs.Evaluation.Eval.{has_test, get, path_test, eval}
use Rattle.cedar_typing.specs.Evaluation.Outcomes.{Test, Says, Stops, of_test, and_test, on_value, then_test}
use Rattle.cedar_typing.specs.Evaluation.World.{World, Failure, Outcome, Gives, Fails}
use Rattle.cedar_typing.specs.Rules.Attributes.{attribute_of}
use Rattle.cedar_typing.specs.Rules.Chains.{Progress, is_object, step_type, step_earns, with_step, go_on_unless_false, step, end_of_chain}
use Rattle.cedar_typing.specs.Soundness.{HasFound, IsSafe, IsTrueOutcome}
use Rattle.cedar_typing.specs.TypeEnv.{TypeEnv}
use Rattle.cedar_typing.specs.TypeTests.{accepts, object_types, is_false, is_true, is_record}
use Rattle.cedar_typing.specs.TypedExpr.{Source}
use Rattle.cedar_typing.proofs.Basics.{or_cases}
use Rattle.cedar_typing.proofs.Rules.Operands.{record_accepted}
use Rattle.cedar_typing.proofs.KeptTypes.Chains.{IsBool, end_bool}
use Rattle.cedar_typing.proofs.KeptTypes.Eager.{decided_type}
use Rattle.cedar_typing.proofs.Soundness.Capabilities.{eval_form, hold_none, hold_just, hold_either}
use Rattle.cedar_typing.proofs.Soundness.Parts.{IsSure}
use Rattle.cedar_typing.proofs.Values.Attributes.{required_has, has_says, has_not}

-- ---- the promise on the rest of a chain

-- the promise on a rest with the type u: it is safe, and its capabilities hold, if it and the steps
-- so far are true
pub record RestGift (world : World) (o : Outcome) (p : Progress) (t : Test) (u : Ty) (c : Caps) : Type 0 where
  pub safe : AllHold world p.earned → IsSafe o → IsSafe (of_test t)
  pub caps_hold_if_true : AllHold world p.earned → IsTrueOutcome (of_test t) → AllHold world c
  pub caps_hold_at_true : IsSure (Some u) → AllHold world c

abbrev pub RestIsSound : World → Outcome → Progress → Test → Decision → Type 0
RestIsSound world o p t (gives u c) = RestGift world o p t u c
RestIsSound world o p t (refuses u fs) = Unit {0}

pub record SoundRest (world : World) (o : Outcome) (p : Progress) (t : Test) (d : Decision) : Type 0 where
  pub typed : HasFound (decided_type d) (of_test t)
  pub boolean : IsBool (decided_type d)
  -- the rest is True only if each step so far was
  pub sure : IsSure (decided_type d) → p.all_true ≡ true
  pub succeeds : RestIsSound world o p t d

-- the earned capabilities hold if each step so far was True
abbrev pub HoldsIfSure : World → Progress → Type 0
HoldsIfSure world p = p.all_true ≡ true → AllHold world p.earned

-- ---- tests

pub any_test : (t : Test) → HasFound (Some (TBool AnyBool)) (of_test t)
any_test (Says b) = tt
any_test (Stops f) = tt

fails_typed : (u : Option Ty) (f : Failure) → HasFound u (Fails f)
fails_typed None f = tt
fails_typed (Some u) f = tt

-- false is of each kind of Boolean but True
false_typed : (k : BoolType) → (IsSure (Some (TBool k)) → IsTrue false) → HasFound (Some (TBool k)) (Gives (VBool false))
false_typed True h = h tt
false_typed False h = refl
false_typed AnyBool h = tt

and_typed : (u : Option Ty) (c t : Test) → IsBool u → (IsSure u → SaysTrue c) → HasFound u (of_test t) → HasFound u (of_test (and_test c t))
and_typed u (Says true) t b h k = k
and_typed u (Says false) t b h k =
    subst (λ z. HasFound z (Gives (VBool false))) (sym b.1) (false_typed b.0 (subst (λ z. IsSure z → IsTrue false) b.1 h))
and_typed u (Stops f) t b h k = fails_typed u f

and_told : (c t : Test) → IsTrueOutcome (of_test (and_test c t)) → SaysTrue c × IsTrueOutcome (of_test t)
and_told (Says true) t h = (refl, h)
and_told (Says false) t h = cc
and_told (Stops f) t h = absurd h

and_safe : (b : Bool) (t : Test) → (IsTrue b → IsSafe (of_test t)) → IsSafe (of_test (and_test (Says b) t))
and_safe true t h = h refl
and_safe false t h = tt

-- ---- the types of steps

sure_if : (b : Bool) → IsSure (Some (if b then TBool True else TBool AnyBool)) → b ≡ true
sure_if true h = refl
sure_if false h = absurd h

true_if : (b : Bool) → is_true (if b then TBool True else TBool AnyBool) ≡ true → b ≡ true
true_if true h = refl
true_if false h = cc

-- the test of a declared attribute is not False
pub declared_not_false : (b : Bool) → is_false (if b then TBool True else TBool AnyBool) ≡ true → ⊥
declared_not_false true h = cc
declared_not_false false h = cc

undeclared_not_true : (b : Bool) → is_true (if b then TBool AnyBool else TBool False) ≡ true → ⊥
undeclared_not_true true h = cc
undeclared_not_true false h = cc

-- the test of another attribute is False only if no value has it
pub false_if : (b : Bool) → is_false (if b then TBool AnyBool else TBool False) ≡ true → b ≡ false
false_if true h = cc
false_if false h = refl

-- an entity or a record is accepted where an object is wanted
pub object_accepted : (s : Ty) → is_object s ≡ true → accepts object_types s ≡ true
object_accepted (TRecord xs o) h = record_accepted xs o
object_accepted (TEntity ps) h = refl
object_accepted TAnyEntity h = refl
object_accepted s h = cc

-- ---- ends of a chain

-- a refused rest is Bool
pub refused_rest : (world : World) (o : Outcome) (p : Progress) (t : Test) (fs : List Finding) → SoundRest world o p t (refuses (Some (TBool AnyBool)) fs)
refused_rest world o p t fs = record { typed = any_test t; boolean = (AnyBool, refl); sure = λ h. absurd h; succeeds = tt }

-- after the last step nothing more is asked
pub end_rest : (world : World) (o : Outcome) (p : Progress) → HoldsIfSure world p → SoundRest world o p (Says true) (end_of_chain p)
end_rest world o p h = record {
  typed = ends p.all_true;
  boolean = end_bool p.all_true;
  sure = sure_if p.all_true;
  succeeds = record { safe = λ k g. tt; caps_hold_if_true = λ k g. k; caps_hold_at_true = λ g. h (sure_if p.all_true g) };
}
  where
    ends : (b : Bool) → HasFound (Some (if b then TBool True else TBool AnyBool)) (Gives (VBool true))
    ends true = refl
    ends false = tt

-- ---- `has` x, and t after it

abbrev pub from_step : World → Text → Test → Outcome → Test
from_step world x t o = then_test o (λ v. and_test (has_test world.store x v) t)

and_true : (c : Test) → c ≡ and_test c (Says true)
and_true (Says true) = refl
and_true (Says false) = refl
and_true (Stops f) = refl

pub last_step : (world : World) (x : Text) (o : Outcome) → then_test o (path_test world.store x []) ≡ from_step world x (Says true) o
last_step world x (Gives v) = and_true (has_test world.store x v)
last_step world x (Fails f) = refl

pub first_step : (world : World) (x y : Text) (ys : List Text) (o : Outcome) → then_test o (path_test world.store x (y ∷ ys))
    ≡ from_step world x (then_test (on_value o (get world.store x)) (path_test world.store y ys)) o
first_step world x y ys (Gives v) = refl
first_step world x y ys (Fails f) = refl

module _ (env : TypeEnv) (world : World) (conforms : ConformingStore env.schema world.store) (x : Text) (t : Test) where
  step_typed : (u : Option Ty) (o : Outcome) → IsBool u → (IsSure u → HasAttribute world.store x o) → HasFound u (of_test t) → HasFound u (of_test (from_step world x t o))
  step_typed u (Gives v) b h k = and_typed u (has_test world.store x v) t b h k
  step_typed u (Fails f) b h k = fails_typed u f

  step_told : (o : Outcome) → IsTrueOutcome (of_test (from_step world x t o)) → HasAttribute world.store x o × IsTrueOutcome (of_test t)
  step_told (Gives v) h = and_told (has_test world.store x v) t h
  step_told (Fails f) h = absurd h

  step_safe : (s : Ty) (o : Outcome) → accepts object_types s ≡ true → HasFound (Some s) o
      → (HasAttribute world.store x o → IsSafe (of_test t)) → IsSafe o → IsSafe (of_test (from_step world x t o))
  step_safe s (Gives v) a h k g =
      let c = has_says env.schema x world.store conforms s v a h in
      subst (λ z. IsSafe (of_test (and_test z t))) (sym c.1) (and_safe c.0 t (λ n. k (subst SaysTrue (sym c.1) n)))
  step_safe s (Fails f) a h k g = g

  -- the step is False if no value of the type has x
  step_false : (s : Ty) (o : Outcome) → accepts object_types s ≡ true → HasFound (Some s) o → may_have env.schema s x ≡ false
      → HasFound (Some (TBool False)) (of_test (from_step world x t o)) × (IsSafe o → IsSafe (of_test (from_step world x t o)))
  step_false s (Gives v) a h n =
      let e = sym (has_not env.schema x world.store conforms s v a h n) in
      (subst (λ z. HasFound (Some (TBool False)) (of_test (and_test z t))) e refl, λ g. subst (λ z. IsSafe (of_test (and_test z t))) e tt)
  step_false s (Fails f) a h n = (tt, λ g. g)

-- ---- known attributes

-- whether it is known that e has x: from before the chain, or from the steps so far
abbrev pub known : Caps → Source → Text → Progress → Bool
known prior e x p = union prior p.earned (attribute_of e x)

pub known_there : (world : World) (prior : Caps) → AllHold world prior → (e : Source) (x : Text) (p : Progress) → AllHold world p.earned
    → known prior e x p ≡ true → HasAttribute world.store x (eval world e)
known_there world prior hold e x p k n = subst (HasAttribute world.store x) (eval_form world e) (hold_either world prior p.earned hold k (attribute_of e x) n)

-- ---- one step

module _ (env : TypeEnv) (world : World) (conforms : ConformingStore env.schema world.store) (prior : Caps) (hold : AllHold world prior)
    (e : Source) (s : Ty) (h : HasFound (Some s) (eval world e)) (x : Text) (p : Progress) (holds : HoldsIfSure world p) where
  abbrev base : Outcome
  base = eval world e

  abbrev known_now : Bool
  known_now = known prior e x p

  abbrev found : Option (Ty × Bool)
  found = attribute_type env.schema s x

  abbrev type_at : Option (Ty × Bool) → Ty
  type_at a = step_type env s x known_now a

  abbrev earned_at : Option (Ty × Bool) → Caps
  earned_at a = step_earns (type_at a) (attribute_of e x) a

  required_there : (u : Ty) (r : Bool) (o : Outcome) → HasFound (Some s) o → found ≡ Some (u, r) → (r && is_record s) ≡ true → HasAttribute world.store x o
  required_there u r (Gives v) k f n =
      let P : Bool → Type 0 = λ q. found ≡ Some (u, q) in
      required_has env.schema x world.store conforms s u v (and_right r (is_record s) n) k (subst P (and_left r (is_record s) n) f)
  required_there u r (Fails z) k f n = tt

  -- the attribute is there if the step is True
  true_there : AllHold world p.earned → (a : Option (Ty × Bool)) → found ≡ a → is_true (type_at a) ≡ true → HasAttribute world.store x base
  true_there k (Some a) f n =
      or_cases known_now (a.1 && is_record s) (HasAttribute world.store x base) (known_there world prior hold e x p k)
      (required_there a.0 a.1 base h f) (true_if (known_now || (a.1 && is_record s)) n)
  true_there k None f n = absurd (undeclared_not_true (may_have env.schema s x) n)

  -- no value of the type has the attribute if the step is False
  false_absent : (a : Option (Ty × Bool)) → is_false (type_at a) ≡ true → may_have env.schema s x ≡ false
  false_absent (Some a) n = absurd (declared_not_false (known_now || (a.1 && is_record s)) n)
  false_absent None n = false_if (may_have env.schema s x) n

  -- the capability that a step earns holds if the attribute is there
  earned_holds : (a : Option (Ty × Bool)) → HasAttribute world.store x base → AllHold world (earned_at a)
  earned_holds (Some a) k = by (is_true (type_at (Some a)))
    where
      by : (b : Bool) → AllHold world (if b then no_caps else single (attribute_of e x))
      by true = hold_none world
      by false = hold_just world (attribute_of e x) (subst (HasAttribute world.store x) (sym (eval_form world e)) k)
  earned_holds None k = hold_none world

  -- a step that is True earns nothing
  nothing_earned : (a : Option (Ty × Bool)) → is_true (type_at a) ≡ true → AllHold world (earned_at a)
  nothing_earned (Some a) n = by (is_true (type_at (Some a))) n
    where
      by : (b : Bool) → b ≡ true → AllHold world (if b then no_caps else single (attribute_of e x))
      by true n = hold_none world
      by false n = cc
  nothing_earned None n = hold_none world

  module _ (l : Option Loc) (next : Progress → Decision) (t : Test) (rest : (q : Progress) → HoldsIfSure world q → SoundRest world base q t (next q)) where
    abbrev this : Progress
    this = with_step p (type_at found) (earned_at found)

    abbrev whole : Test
    whole = from_step world x t base

    all_earned : AllHold world p.earned → AllHold world (earned_at found) → AllHold world this.earned
    all_earned k i = hold_either world p.earned (earned_at found) k i

    sure_so_far : this.all_true ≡ true → p.all_true ≡ true
    sure_so_far n = and_left p.all_true (is_true (type_at found)) n

    sure_now : this.all_true ≡ true → is_true (type_at found) ≡ true
    sure_now n = and_right p.all_true (is_true (type_at found)) n

    still_holds : HoldsIfSure world this
    still_holds n = all_earned (holds (sure_so_far n)) (nothing_earned found (sure_now n))

    step_gift : (d : Decision) → accepts object_types s ≡ true → RestIsSound world base this t d → RestIsSound world base p whole d
    step_gift (gives u c) a r = record {
      safe = λ k g. step_safe env world conforms x t s base a h (λ i. r.safe (all_earned k (earned_holds found i)) g) g;
      caps_hold_if_true = λ k g.
          let i = step_told env world conforms x t base g in
          r.caps_hold_if_true (all_earned k (earned_holds found i.0)) i.1;
      caps_hold_at_true = r.caps_hold_at_true;
    }
    step_gift (refuses u fs) a r = tt

    goes_on : accepts object_types s ≡ true → (b : Bool) → is_false (type_at found) ≡ b → SoundRest world base p whole (if b then gives (TBool False) no_caps else next this)
    goes_on a true n =
        let f = step_false env world conforms x t s base a h (false_absent found n) in
        record {
          typed = f.0;
          boolean = (False, refl);
          sure = λ g. absurd g;
          succeeds = record { safe = λ k. f.1; caps_hold_if_true = λ k g. hold_none world; caps_hold_at_true = λ g. hold_none world };
        }
    goes_on a false n =
        let r = rest this still_holds in
        record {
          typed = step_typed env world conforms x t (decided_type (next this)) base r.boolean (λ g. true_there (holds (sure_so_far (r.sure g))) found refl (sure_now (r.sure g))) r.typed;
          boolean = r.boolean;
          sure = λ g. sure_so_far (r.sure g);
          succeeds = step_gift (next this) a r.succeeds;
        }

    pub step_rest : SoundRest world base p whole (step env l (attribute_of e x) known_now s x p next)
    step_rest = by (is_object s) refl _
      where
        by : (b : Bool) → is_object s ≡ b → (fs : List Finding) → SoundRest world base p whole (if b then go_on_unless_false (type_at found) this next else refuses (Some (TBool AnyBool)) fs)
        by true n fs = goes_on (object_accepted s n) (is_false (type_at found)) refl
        by false n fs = refused_rest world base p whole fs
