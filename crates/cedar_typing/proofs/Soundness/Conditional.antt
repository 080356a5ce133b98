-- `if` does not go wrong.
use Rattle.std.proofs.Common.{◌≡◌, Bool, true, false, List, Option, Some, None, option_map, if◌then◌else◌, ◌||◌, refl, subst}
use Rattle.cedar_types.specs.declared.base.location.Loc.{Loc}
use Rattle.cedar_types.specs.declared.base.types.ValidationMode.{ValidationMode}
use Rattle.cedar_types.specs.Names.{Path}
use Rattle.cedar_types.proofs.Comparisons.SameTypes.{ty_to}
use Rattle.cedar_types.specs.Types.{Attrs, Ty, TNever, TBool, TLong, TString, TSet, TAnySet, TRecord, TEntity, TAnyEntity, TExtension}
use Rattle.cedar_types.specs.Expressions.View.{Written}
use Rattle.cedar_types.specs.Types.Bounds.{is_strict, is_never, ty_eq, union as union_of_types, closed_lub, wide_lub, lub, apart_lub}
use Rattle.cedar_types.specs.Types.Bounds.{bool_lub, set_lub, any_set_lub, entity_lub, any_entity_lub, record_lub, both_attrs, common_attrs}
use Rattle.cedar_types.specs.Errors.{Finding}
use Rattle.cedar_typing.specs.Capabilities.{Caps, no_caps, union, intersection}
use Rattle.cedar_typing.specs.Evaluation.Conformance.{AllHold, SaysTrue}
use Rattle.cedar_typing.specs.Evaluation.Outcomes.{Test, Says, Stops, test_of, choose}
use Rattle.cedar_typing.specs.Evaluation.World.{World, Failure, Outcome, Gives, Fails}
use Rattle.cedar_typing.specs.TypeTests.Joins.{joined}
use Rattle.cedar_typing.specs.Judgments.{Judgment, Operand}
use Rattle.cedar_typing.specs.Rules.Conditional.{if_true_recovered, if_false_recovered, if_open_recovered, if_true, if_false, if_open}
use Rattle.cedar_typing.specs.Rules.Conditional.{if_rules}
use Rattle.cedar_typing.specs.Soundness.{HasFound, IsSafe, IsTrueOutcome}
use Rattle.cedar_typing.specs.TypeEnv.{TypeEnv}
use Rattle.cedar_typing.specs.TypeTests.{bool_types}
use Rattle.cedar_typing.specs.TypedExpr.{TypedTree, annotation}
use Rattle.cedar_typing.proofs.Bounds.Kept.{right_kept}
use Rattle.cedar_typing.proofs.Bounds.Values.{lub_left}
use Rattle.cedar_typing.proofs.KeptTypes.Keeping.{HasKept}
use Rattle.cedar_typing.proofs.KeptTypes.Rules.{KeepsTypes, part_kept}
use Rattle.cedar_typing.proofs.KeptTypes.Types.{KeptIn}
use Rattle.cedar_typing.proofs.Soundness.Capabilities.{hold_either, hold_left, hold_right}
use Rattle.cedar_typing.proofs.Soundness.ShortCircuit.Conjunction.{derived_test, true_sort, false_sort}
use Rattle.cedar_typing.proofs.Soundness.Parts.{IsSureType, Sound, Sounds, IsSure, refused_sound, part_sound}
use Rattle.cedar_typing.proofs.Soundness.Tests.{BoolSort, OnlyTrue, OnlyFalse, TestHas, SafeTest, SoundTest, sort_of, sorted, operand_sort, tested_operand}

-- ---- the branch that is taken

module _ (t : Option Ty) where
  failed_has : (f : Failure) → HasFound t (Fails f)
  failed_has f = go t
    where
      go : (t : Option Ty) → HasFound t (Fails f)
      go None = tt
      go (Some t) = tt

  true_has : (s : Test) (o p : Outcome) → TestHas s (Some OnlyTrue) → (SaysTrue s → HasFound t o) → HasFound t (choose s o p)
  true_has (Says true) o p h f = f refl
  true_has (Says false) o p h f = cc
  true_has (Stops e) o p h f = failed_has e

  false_has : (s : Test) (o p : Outcome) → TestHas s (Some OnlyFalse) → HasFound t p → HasFound t (choose s o p)
  false_has (Says true) o p h f = cc
  false_has (Says false) o p h f = f
  false_has (Stops e) o p h f = failed_has e

  open_has : (s : Test) (o p : Outcome) → (SaysTrue s → HasFound t o) → HasFound t p → HasFound t (choose s o p)
  open_has (Says true) o p f g = f refl
  open_has (Says false) o p f g = g
  open_has (Stops e) o p f g = failed_has e

chosen_safe : (s : Test) (o p : Outcome) → SafeTest s → (SaysTrue s → IsSafe o) → IsSafe p → IsSafe (choose s o p)
chosen_safe (Says true) o p h f g = f refl
chosen_safe (Says false) o p h f g = g
chosen_safe (Stops e) o p h f g = h

true_safe : (s : Test) (o p : Outcome) → TestHas s (Some OnlyTrue) → SafeTest s → (SaysTrue s → IsSafe o) → IsSafe (choose s o p)
true_safe (Says true) o p n h f = f refl
true_safe (Says false) o p n h f = cc
true_safe (Stops e) o p n h f = h

false_safe : (s : Test) (o p : Outcome) → TestHas s (Some OnlyFalse) → SafeTest s → IsSafe p → IsSafe (choose s o p)
false_safe (Says true) o p n h f = cc
false_safe (Says false) o p n h f = f
false_safe (Stops e) o p n h f = h

true_taken : (s : Test) (o p : Outcome) → TestHas s (Some OnlyTrue) → IsTrueOutcome (choose s o p) → IsTrueOutcome o
true_taken (Says true) o p n h = h
true_taken (Says false) o p n h = cc
true_taken (Stops e) o p n h = absurd h

false_taken : (s : Test) (o p : Outcome) → TestHas s (Some OnlyFalse) → IsTrueOutcome (choose s o p) → IsTrueOutcome p
false_taken (Says true) o p n h = cc
false_taken (Says false) o p n h = h
false_taken (Stops e) o p n h = absurd h

open_taken : (s : Test) (o p : Outcome) (P : Type 0) → (SaysTrue s → IsTrueOutcome o → P) → (IsTrueOutcome p → P)
    → IsTrueOutcome (choose s o p) → P
open_taken (Says true) o p P f g h = f refl h
open_taken (Says false) o p P f g h = g h
open_taken (Stops e) o p P f g h = absurd h

-- ---- bounds

-- a value of a branch has the type of the whole
left_has : (m : ValidationMode) (x y : Option Ty) (o : Outcome) → HasFound x o → HasFound (joined m x y) o
left_has m None y o h = tt
left_has m (Some t) None o h = tt
left_has m (Some t) (Some u) o h = go (lub m t u) refl o h
  where
    go : (z : Option Ty) → lub m t u ≡ z → (o : Outcome) → HasFound (Some t) o → HasFound z o
    go None e o h = tt
    go (Some v) e (Gives x) h = lub_left m t u v e x h
    go (Some v) e (Fails f) h = tt

right_has : (strictly : Bool) (m : ValidationMode) → is_strict m ≡ strictly → (x y : Option Ty)
    → HasKept (KeptIn strictly) x → HasKept (KeptIn strictly) y → (o : Outcome) → HasFound y o
    → HasFound (joined m x y) o
right_has strictly m strict None y n k o h = tt
right_has strictly m strict (Some t) None n k o h = tt
right_has strictly m strict (Some t) (Some u) n k o h = go (lub m t u) refl o h
  where
    go : (z : Option Ty) → lub m t u ≡ z → (o : Outcome) → HasFound (Some u) o → HasFound z o
    go None e o h = tt
    go (Some v) e (Gives x) h = right_kept strictly m strict t u v n k e x h
    go (Some v) e (Fails f) h = tt

-- the right side's type is True or without values if the bound is
module _ (u : Ty) where
  abbrev FromRight : Option Ty → Type 0
  FromRight o = IsSure o → IsSureType u

  right_if : (b : Bool) (x y : Option Ty) → (b ≡ true → FromRight x) → FromRight y → FromRight (if b then x else y)
  right_if true x y f g = f refl
  right_if false x y f g = g

right_set : (o : Option Ty) (u : Ty) → FromRight u (option_map TSet o)
right_set None u h = absurd h
right_set (Some t) u h = absurd h

right_sets : (f : Ty → Option Ty) (u : Ty) → FromRight u (set_lub f u)
right_sets f (TSet t) h = right_set (f t) (TSet t) h
right_sets f TNever h = tt
right_sets f (TBool k) h = absurd h
right_sets f TLong h = absurd h
right_sets f TString h = absurd h
right_sets f TAnySet h = absurd h
right_sets f (TRecord xs o) h = absurd h
right_sets f (TEntity ps) h = absurd h
right_sets f TAnyEntity h = absurd h
right_sets f (TExtension n) h = absurd h

right_bool : (u : Ty) → FromRight u (bool_lub u)
right_bool (TBool k) h = absurd h
right_bool u h = absurd h

right_any_set : (u : Ty) → FromRight u (any_set_lub u)
right_any_set (TSet t) h = absurd h
right_any_set u h = absurd h

right_none : (b : Bool) (x y : Option Ty) (u : Ty) → FromRight u x → FromRight u y → FromRight u (if b then x else y)
right_none true x y u f g = f
right_none false x y u f g = g

right_entity : (m : ValidationMode) (ps : List Path) (u : Ty) → FromRight u (entity_lub m ps u)
right_entity m ps (TEntity qs) =
    right_none (is_strict m) None (Some (TEntity (union_of_types ps qs))) (TEntity qs)
    (λ h. absurd h) (λ h. absurd h)
right_entity m ps TAnyEntity = λ h. absurd h
right_entity m ps u = λ h. absurd h

right_any_entity : (u : Ty) → FromRight u (any_entity_lub u)
right_any_entity (TEntity ps) h = absurd h
right_any_entity u h = absurd h

right_closed : (b : Bool) (zs : Option Attrs) (u : Ty) → FromRight u (if b then None else option_map (λ zs. TRecord zs false) zs)
right_closed true zs u h = absurd h
right_closed false None u h = absurd h
right_closed false (Some zs) u h = absurd h

right_record : (m : ValidationMode) (xs : Attrs) (o : Bool) (f : Attrs → Option Attrs) (g : Attrs → Attrs) (u : Ty)
    → FromRight u (record_lub m xs o f g u)
right_record m xs o f g (TRecord ys p) =
    right_none (is_strict m) (closed_lub o p (f ys)) (Some (wide_lub xs o ys p (g ys))) (TRecord ys p)
    (right_closed (o || p) (f ys) (TRecord ys p)) (λ h. absurd h)
right_record m xs o f g u = λ h. absurd h

right_apart : (m : ValidationMode) (t u : Ty) → FromRight u (apart_lub m t u)
right_apart m TNever u h = h
right_apart m (TBool k) u h = right_bool u h
right_apart m TLong u h = absurd h
right_apart m TString u h = absurd h
right_apart m (TSet t) u h = right_sets (lub m t) u h
right_apart m TAnySet u h = right_any_set u h
right_apart m (TRecord xs o) u h = right_record m xs o (both_attrs m xs) (common_attrs m xs) u h
right_apart m (TEntity ps) u h = right_entity m ps u h
right_apart m TAnyEntity u h = right_any_entity u h
right_apart m (TExtension n) u h = absurd h

never_sure : (u : Ty) → is_never u ≡ true → IsSureType u
never_sure TNever h = tt
never_sure u h = cc

right_lub : (m : ValidationMode) (t u : Ty) → FromRight u (lub m t u)
right_lub m t u =
    right_if u (ty_eq t u) (Some t) _ (λ e h. subst IsSureType (ty_to t u e) h)
    (right_if u (is_never u) (Some t) (apart_lub m t u) (λ e h. never_sure u e) (right_apart m t u))

right_joined : (m : ValidationMode) (x y : Option Ty) → IsSure (joined m x y) → IsSure y
right_joined m None y h = absurd h
right_joined m (Some t) None h = absurd h
right_joined m (Some t) (Some u) h = right_lub m t u h

-- ---- the rules

module _ (strictly : Bool) (world : World) (env : TypeEnv) (strict : is_strict env.mode ≡ strictly) (m : Written)
    (l : Option Loc) (o p q : Outcome) (A : Judgment) (B : Caps → Judgment) (E : Judgment) (prior : Caps)
    (held : AllHold world prior) (test : Sounds world o A)
    (branch : (p' : Caps) → AllHold world p' → Sounds world p (B p')) (otherwise : Sounds world q E)
    (branch_kept : (p' : Caps) → KeepsTypes (KeptIn strictly) (B p')) (otherwise_kept : KeepsTypes (KeptIn strictly) E) where
  abbrev choice : Outcome
  choice = choose (test_of o) p q

  known : (c : Caps) → AllHold world c → AllHold world (union prior c)
  known c h = hold_either world prior c held h

  if_derived : (t : Ty) (c : Caps) (x : TypedTree) → (if_rules env m l A B E prior).derives t c x → Sound world choice true (Some t) c
  if_derived t c x (if_true {c = k} {c' = k'} d d') =
      let h = sorted world o true OnlyTrue k (test.derivations _ _ _ d) in
      let s = (branch (union prior k) (known k (h.caps_hold_at_true tt))).derivations _ _ _ d' in
      record {
        typed = true_has (Some t) (test_of o) p q h.typed (λ n. s.typed);
        safe = λ n. true_safe (test_of o) p q h.typed (h.safe refl) (λ e. s.safe refl);
        caps_hold_if_true =
            λ n. hold_either world k k' (h.caps_hold_at_true tt)
            (s.caps_hold_if_true (true_taken (test_of o) p q h.typed n));
        caps_hold_at_true = λ n. hold_either world k k' (h.caps_hold_at_true tt) (s.caps_hold_at_true n);
      }
  if_derived t c x (if_false {c = k} d d') =
      let h = sorted world o true OnlyFalse k (test.derivations _ _ _ d) in
      let s = otherwise.derivations _ _ _ d' in
      record {
        typed = false_has (Some t) (test_of o) p q h.typed s.typed;
        safe = λ n. false_safe (test_of o) p q h.typed (h.safe refl) (s.safe refl);
        caps_hold_if_true = λ n. s.caps_hold_if_true (false_taken (test_of o) p q h.typed n);
        caps_hold_at_true = s.caps_hold_at_true;
      }
  if_derived t c x (if_open {s = s} {t = t'} {u = u} {c = k} {c' = k'} {c'' = k''} d a n n' d' d'' e) =
      let h = (derived_test world o s k a (test.derivations _ _ _ d)).test in
      let b = λ (f : SaysTrue (test_of o)). (branch (union prior k) (known k (h.caps_hold_if_true f))).derivations _ _ _ d' in
      let z = otherwise.derivations _ _ _ d'' in
      let bk = (branch_kept (union prior k)).derivations _ _ _ d' in
      let ek = otherwise_kept.derivations _ _ _ d'' in
      let P : Option Ty → Type 0 = λ v. HasFound v choice in
      let Q : Option Ty → Type 0 = λ v. IsSure v → AllHold world (intersection k'' (union k k')) in
      record {
        typed =
            subst P e (open_has (joined env.mode (Some t') (Some u)) (test_of o) p q
            (λ i. left_has env.mode (Some t') (Some u) p (b i).typed)
            (right_has strictly env.mode strict (Some t') (Some u) bk ek q z.typed));
        safe = λ i. chosen_safe (test_of o) p q (h.safe refl) (λ j. (b j).safe refl) (z.safe refl);
        caps_hold_if_true =
            λ i. open_taken (test_of o)
            p q _ (λ j v. hold_right world k'' (union k k')
            (hold_either world k k' (h.caps_hold_if_true j) ((b j).caps_hold_if_true v)))
            (λ v. hold_left world k'' (union k k') (z.caps_hold_if_true v)) i;
        caps_hold_at_true =
            subst Q e (λ i. hold_left world k'' (union k k')
            (z.caps_hold_at_true (right_joined env.mode (Some t') (Some u) i)));
      }

  -- the promise on a test, by the sort that was found of it
  settled : (succeeded : Bool) (k : Caps) (a : TypedTree) (fs : List Finding) → Operand env bool_types l A succeeded k a fs
      → (sort : Option BoolSort) → sort_of (annotation a) ≡ sort → SoundTest world (test_of o) succeeded sort k
  settled succeeded k a fs i sort e =
      let P : Option BoolSort → Type 0 = λ s. SoundTest world (test_of o) succeeded s k in
      subst P e (tested_operand world o env l A test succeeded k a fs i)

  if_recovery : (x : TypedTree) (es : List Finding) → (if_rules env m l A B E prior).recovers x es
      → Sound world choice false (annotation x) no_caps
  if_recovery x es
      (if_true_recovered {succeeded = succeeded} {succeeded' = succeeded'} {c = k} {c' = k'} {a = a} {b = b} {es = fs} {es' = fs'}
      a' n b' g) =
      let h = settled succeeded k a fs a' _ (true_sort (annotation a) (operand_sort world o env l A succeeded k a fs a') n) in
      let s = part_sound world p (B (union prior k)) (branch (union prior k) (known k (h.caps_hold_at_true tt))) succeeded' k' b fs' b' in
      refused_sound world choice _ (true_has (annotation b) (test_of o) p q h.typed (λ i. s.typed))
  if_recovery x es
      (if_false_recovered {succeeded = succeeded} {succeeded' = succeeded'} {c = k} {c' = k'} {a = a} {e = b} {es = fs} {es' = fs'}
      a' n b' g) =
      let h = settled succeeded k a fs a' _ (false_sort (annotation a) (operand_sort world o env l A succeeded k a fs a') n) in
      let s = part_sound world q E otherwise succeeded' k' b fs' b' in
      refused_sound world choice _ (false_has (annotation b) (test_of o) p q h.typed s.typed)
  if_recovery x es
      (if_open_recovered {succeeded = succeeded} {succeeded' = succeeded'} {succeeded'' = succeeded''} {c = k} {c' = k'} {c'' = k''} {a = a} {b = b} {e = z} {es = fs} {es' = fs'} {es'' = fs''}
      a' n n' b' z' g) =
      let h = tested_operand world o env l A test succeeded k a fs a' in
      let s = λ (f : SaysTrue (test_of o)). part_sound world p (B (union prior k))
      (branch (union prior k) (known k (h.caps_hold_if_true f))) succeeded' k' b fs' b' in
      let i = part_sound world q E otherwise succeeded'' k'' z fs'' z' in
      let m' = part_kept (KeptIn strictly) (B (union prior k)) (branch_kept (union prior k)) succeeded' k' b fs' b' in
      let m'' = part_kept (KeptIn strictly) E otherwise_kept succeeded'' k'' z fs'' z' in
      refused_sound world choice _ (open_has (joined env.mode (annotation b) (annotation z)) (test_of o) p q
      (λ f. left_has env.mode (annotation b) (annotation z) p (s f).typed)
      (right_has strictly env.mode strict (annotation b) (annotation z) m' m'' q i.typed))

  if_marks : (t : Ty) (c : Caps) (x : TypedTree) → (if_rules env m l A B E prior).derives t c x → annotation x ≡ Some t
  if_marks t c x (if_true d d') = refl
  if_marks t c x (if_false d d') = refl
  if_marks t c x (if_open d a n n' d' d'' e) = refl

  pub if_sounds : Sounds world choice (if_rules env m l A B E prior)
  if_sounds = record { derivations = if_derived; recoveries = if_recovery; marks = if_marks }
