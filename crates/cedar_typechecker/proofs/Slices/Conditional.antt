-- `if`, `&&` and `||` evaluate over the part of a store as over the whole store.
use Rattle.std.proofs.Common.{◌≡◌, ℕ, ◌≤◌, true, List, Option, Some, refl, sym, ◌∙◌, ap, subst}
use Rattle.cedar_types.specs.declared.base.location.Loc.{Loc}
use Rattle.cedar_types.specs.declared.base.types.BoolType.TheVariants.{True, False}
use Rattle.cedar_types.specs.Names.{Text, Uid}
use Rattle.cedar_types.specs.Expressions.Tree.{lit, if_then_else}
use Rattle.cedar_types.specs.Types.{Ty, TBool}
use Rattle.cedar_types.specs.Expressions.View.{Written}
use Rattle.cedar_typing.specs.Capabilities.{Caps, union}
use Rattle.cedar_typing.specs.Evaluation.Conformance.{AllHold}
use Rattle.cedar_typing.specs.Evaluation.Outcomes.{test_of, of_test, choose, and_test, or_test}
use Rattle.cedar_typing.specs.Evaluation.World.{World, Failure, Outcome, Fails}
use Rattle.cedar_typing.specs.Judgments.{Judgment}
use Rattle.cedar_typing.specs.Rules.Conditional.{if_true, if_false, if_open, if_rules}
use Rattle.cedar_typing.specs.Rules.ShortCircuit.{conjunction, disjunction, short_circuit_rules, left_ends, both_sides}
use Rattle.cedar_typing.specs.Soundness.{HasFound, IsTrueOutcome}
use Rattle.cedar_typing.specs.TypeEnv.{TypeEnv}
use Rattle.cedar_typing.specs.TypeTests.{is_true, is_false}
use Rattle.cedar_typing.specs.TypedExpr.{TypedTree, Mark, at_place}
use Rattle.cedar_typing.proofs.Soundness.Capabilities.{hold_either}
use Rattle.cedar_typing.proofs.TypeTests.{false_type, true_type}
use Rattle.cedar_typechecker.specs.Levels.Setting.{LevelSetting}
use Rattle.cedar_typechecker.proofs.Levels.Silent.{Silent, Targeted}
use Rattle.cedar_typechecker.proofs.Slices.Same.{IsTold, IsToldLeft, IsReached, IsSame, fails_reached, test_ids, chosen_true, chosen_false}
use Rattle.cedar_typechecker.proofs.Slices.Same.{chosen_open, and_left_false, or_left_true, and_sides}

module _ (s : LevelSetting) (P : ℕ → Uid → Type 0) where
  -- ---- the place of a node does not matter

  pub silent_placed : (l : Option Loc) (x : TypedTree) → Silent s (at_place l x) → Silent s x
  silent_placed l (lit m x) h = h
  silent_placed l x h = h

  pub targeted_placed : (l : Option Loc) (x : TypedTree) (path : List Text) (k : ℕ)
      → Targeted s (at_place l x) path k → Targeted s x path k
  targeted_placed l (lit m x) path k h = h
  targeted_placed l x path k h = h

  -- ---- `if`

  module _ (world : World) (env : TypeEnv) (m : Written) (l : Option Loc)
      (o o' p p' q q' : Outcome) (A : Judgment) (B : Caps → Judgment) (E : Judgment)
      (prior : Caps) (held : AllHold world prior)
      (told : IsTold world o A) (test : IsSame s P o o' A)
      (branch : (c : Caps) → AllHold world c → IsSame s P p p' (B c))
      (otherwise : IsSame s P q q' E) where
    abbrev Whole : Judgment
    Whole = if_rules env m l A B E prior

    -- Q is proved of the whole if it is proved of each branch in which no error is found (S)
    module _ (S W : TypedTree → Type 0)
        (parts : (k : Mark) (a b e : TypedTree) → W (if_then_else k a b e)
        → Silent s a × S b × S e)
        (Q : Outcome → Outcome → Type 0) (fails : (f : Failure) → Q (Fails f) (Fails f))
        (first : (c : Caps) → AllHold world c → (t : Ty) (c' : Caps) (x : TypedTree)
        → (B c).derives t c' x → S x → Q p p')
        (second : (t : Ty) (c : Caps) (x : TypedTree) → E.derives t c x → S x → Q q q') where
      abbrev IsShown : Type 0
      IsShown = Q (choose (test_of o) p q) (choose (test_of o') p' q')

      by_test : Q (choose (test_of o) p q) (choose (test_of o) p' q') → o' ≡ o → IsShown
      by_test h e = subst (λ z. Q (choose (test_of o) p q) (choose (test_of z) p' q')) (sym e) h

      known : (c : Caps) → AllHold world c → AllHold world (union prior c)
      known c h = hold_either world prior c held h

      by_rule : (t : Ty) (c : Caps) (x : TypedTree) → Whole.derives t c x → W x → IsShown
      by_rule t c x (if_true {c = k} {c' = k'} {a = a} {b = b} d d') h =
          let w = parts _ a b b h in
          let i = known k (told.caps_hold_at_true k a d) in
          by_test
          (chosen_true Q fails p q p' q' o (told.typed (TBool True) k a d)
          (first (union prior k) i t k' b d' w.1))
          (test.checked (TBool True) k a d w.0)
      by_rule t c x (if_false {c = k} {c' = k'} {a = a} {e = e} d d') h =
          let w = parts _ a e e h in
          by_test
          (chosen_false Q fails p q p' q' o (told.typed (TBool False) k a d)
          (second t k' e d' w.1))
          (test.checked (TBool False) k a d w.0)
      by_rule t c x
          (if_open {s = u} {t = v} {u = w} {c = k} {c' = k'} {c'' = k''} {a = a} {b = b} {e = e}
          d i j j' d' d'' g) h =
          let z = parts _ a b e h in
          let f = λ (y : IsTrueOutcome o).
          first (union prior k) (known k (told.caps_hold_if_true u k a d y)) v k' b d' z.1 in
          by_test (chosen_open Q fails p q p' q' o f (second w k'' e d'' z.2))
          (test.checked u k a d z.0)

    pub if_same : IsSame s P (choose (test_of o) p q) (choose (test_of o') p' q') Whole
    if_same = record {
      checked =
          by_rule (Silent s) (Silent s) (λ k a b e h. h) (λ a b. b ≡ a) (λ f. refl)
          (λ c h. (branch c h).checked) otherwise.checked;
      target = λ t c x d path k le h.
          by_rule (λ y. Targeted s y path k) (λ y. Targeted s y path k) (λ m a b e i. i)
          (IsReached P path k) (fails_reached P path k)
          (λ c i t' c' x' d' j. (branch c i).target t' c' x' d' path k le j)
          (λ t' c' x' d' j. otherwise.target t' c' x' d' path k le j) t c x d h;
    }

  -- ---- `&&`

  module _ (world : World) (env : TypeEnv) (m : Written) (l l' : Option Loc)
      (o o' p p' : Outcome) (A : Judgment) (B : Caps → Judgment)
      (prior : Caps) (held : AllHold world prior)
      (told : IsToldLeft world o A) (left : IsSame s P o o' A)
      (right : (c : Caps) → AllHold world c → IsSame s P p p' (B c)) where
    abbrev And : Judgment
    And = short_circuit_rules env conjunction m l l' A B prior

    abbrev both : Outcome
    both = of_test (and_test (test_of o) (test_of p))

    abbrev both' : Outcome
    both' = of_test (and_test (test_of o') (test_of p'))

    and_by : o' ≡ o
        → of_test (and_test (test_of o) (test_of p')) ≡ of_test (and_test (test_of o) (test_of p))
        → both' ≡ both
    and_by e f = ap (λ z. of_test (and_test (test_of z) (test_of p'))) e ∙ f

    and_ended : (t : Ty) (c : Caps) (a : TypedTree) → A.derives t c a → is_false t ≡ true
        → o' ≡ o → both' ≡ both
    and_ended t c a d f e =
        and_by e (and_left_false p p' o
        (told.is_false c a (subst (λ u. A.derives u c a) (false_type t f) d)))

    and_checked : (t : Ty) (c : Caps) (x : TypedTree) → And.derives t c x → Silent s x
        → both' ≡ both
    and_checked t c x (left_ends {s = u} {c = k} {a = a} d g f) h =
        and_ended u k a d f (left.checked u k a d (silent_placed m.place a h))
    and_checked t c x
        (both_sides {s = u} {t = v} {c = k} {c' = k'} {a = a} {b = b} d g f d' g') h =
        let known = λ (y : IsTrueOutcome o).
        hold_either world prior k held (told.caps_hold_if_true u k a d y) in
        let i = λ (y : IsTrueOutcome o). (right (union prior k) (known y)).checked v k' b d' h.1 in
        and_by (left.checked u k a d h.0) (and_sides p p' o i)

    and_target : (t : Ty) (c : Caps) (x : TypedTree) → And.derives t c x
        → (path : List Text) (k : ℕ) → k ≤ s.maximum → Targeted s x path k
        → IsReached P path k both both'
    and_target t c x (left_ends {s = u} {c = k} {a = a} d g f) path z le h = record {
      same = and_ended u k a d f
          (left.target u k a d path z le (targeted_placed m.place a path z h)).same;
      ids = test_ids (P z) path (and_test (test_of o) (test_of p));
    }
    and_target t c x (both_sides d g f d' g') path z le h = absurd h

    pub and_same : IsSame s P both both' And
    and_same = record { checked = and_checked; target = and_target }

  -- ---- `||`

  module _ (world : World) (env : TypeEnv) (m : Written) (l l' : Option Loc)
      (o o' p p' : Outcome) (A : Judgment) (B : Caps → Judgment) (prior : Caps)
      (told : IsTold world o A) (left : IsSame s P o o' A)
      (right : IsSame s P p p' (B prior)) where
    abbrev Or : Judgment
    Or = short_circuit_rules env disjunction m l l' A B prior

    abbrev either : Outcome
    either = of_test (or_test (test_of o) (test_of p))

    abbrev either' : Outcome
    either' = of_test (or_test (test_of o') (test_of p'))

    or_ended : (t : Ty) (c : Caps) (a : TypedTree) → A.derives t c a → is_true t ≡ true
        → o' ≡ o → either' ≡ either
    or_ended t c a d f e =
        ap (λ z. of_test (or_test (test_of z) (test_of p'))) e
        ∙ or_left_true p p' o
        (subst (λ u. HasFound (Some u) o) (true_type t f) (told.typed t c a d))

    or_checked : (t : Ty) (c : Caps) (x : TypedTree) → Or.derives t c x → Silent s x
        → either' ≡ either
    or_checked t c x (left_ends {s = u} {c = k} {a = a} d g f) h =
        or_ended u k a d f (left.checked u k a d (silent_placed m.place a h))
    or_checked t c x
        (both_sides {s = u} {t = v} {c = k} {c' = k'} {a = a} {b = b} d g f d' g') h =
        let e = left.checked u k a d h.0 in
        let i = right.checked v k' b d' h.1 in
        λ j. of_test (or_test (test_of (e j)) (test_of (i j)))

    or_target : (t : Ty) (c : Caps) (x : TypedTree) → Or.derives t c x
        → (path : List Text) (k : ℕ) → k ≤ s.maximum → Targeted s x path k
        → IsReached P path k either either'
    or_target t c x (left_ends {s = u} {c = k} {a = a} d g f) path z le h = record {
      same = or_ended u k a d f
          (left.target u k a d path z le (targeted_placed m.place a path z h)).same;
      ids = test_ids (P z) path (or_test (test_of o) (test_of p));
    }
    or_target t c x (both_sides d g f d' g') path z le h = absurd h

    pub or_same : IsSame s P either either' Or
    or_same = record { checked = or_checked; target = or_target }
