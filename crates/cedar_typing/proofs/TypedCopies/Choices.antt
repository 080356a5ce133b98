-- `if`, `&&` and `||`: evaluation skips each part that typing drops.
use Rattle.std.proofs.Common.{◌≡◌, Bool, true, false, true≢false, List, Option, Some, None, refl, sym, ◌∙◌, ap, subst}
use Rattle.cedar_types.specs.declared.base.location.Loc.{Loc}
use Rattle.cedar_types.specs.declared.base.types.BoolType.TheVariants.{True, False}
use Rattle.cedar_types.specs.Errors.{Finding}
use Rattle.cedar_types.specs.Expressions.View.{Written}
use Rattle.cedar_types.specs.Types.{Ty, TBool}
use Rattle.cedar_types.specs.Values.{VBool}
use Rattle.cedar_typing.specs.Capabilities.{Caps, union}
use Rattle.cedar_typing.specs.Evaluation.Eval.{eval}
use Rattle.cedar_typing.specs.Evaluation.Outcomes.{test_of, of_test, and_test, or_test, choose}
use Rattle.cedar_typing.specs.Evaluation.World.{World, Outcome, Gives, Fails}
use Rattle.cedar_typing.specs.Judgments.{Judgment, Operand}
use Rattle.cedar_typing.specs.Rules.Conditional.{if_true_recovered, if_false_recovered, if_open_recovered, if_true, if_false, if_open}
use Rattle.cedar_typing.specs.Rules.Conditional.{if_rules}
use Rattle.cedar_typing.specs.Rules.ShortCircuit.{conjunction, disjunction, short_circuit_rules, left_ends, both_sides, left_ends_failed}
use Rattle.cedar_typing.specs.Rules.ShortCircuit.{side_failed}
use Rattle.cedar_typing.specs.Soundness.{HasFound, IsTrueOutcome}
use Rattle.cedar_typing.specs.TypeEnv.{TypeEnv}
use Rattle.cedar_typing.specs.TypeTests.{bool_types, is_true, is_false, annotation_passes}
use Rattle.cedar_typing.specs.TypedExpr.{TypedTree, annotation}
use Rattle.cedar_typing.proofs.TypeTests.{false_type, true_type}
use Rattle.cedar_typing.proofs.TypedCopies.Same.{eval_marked, IsClosed, ToldPart, Told, ToldLeft, Copies, part_copied, operand_copied}

-- ---- outcomes

-- a branch counts only if the test picks it
chosen : (o : Outcome) (y z p q : Outcome) → (IsTrueOutcome o → y ≡ p) → (o ≡ Gives (VBool false) → z ≡ q)
    → choose (test_of o) y z ≡ choose (test_of o) p q
chosen (Gives (VBool true)) y z p q f g = f refl
chosen (Gives (VBool false)) y z p q f g = g refl
chosen (Gives v) y z p q f g = refl
chosen (Fails e) y z p q f g = refl

-- the first branch may stand for both if the test is True or fails
chosen_true : (o : Outcome) → HasFound (Some (TBool True)) o → (z p q : Outcome) → z ≡ p
    → choose (test_of o) z z ≡ choose (test_of o) p q
chosen_true o h z p q e =
    chosen o z z p q (λ i. e) (λ n. absurd (true≢false (sym (subst (HasFound (Some (TBool True))) n h))))

-- the other branch may stand for both if the test is False or fails
chosen_false : (o : Outcome) → HasFound (Some (TBool False)) o → (z p q : Outcome) → z ≡ q
    → choose (test_of o) z z ≡ choose (test_of o) p q
chosen_false (Gives (VBool true)) h z p q e = cc
chosen_false (Gives (VBool false)) h z p q e = e
chosen_false (Gives v) h z p q e = absurd h
chosen_false (Fails f) h z p q e = refl

-- the first branch counts only if the test is true
chosen_open : (o : Outcome) (y z p q : Outcome) → (IsTrueOutcome o → y ≡ p) → z ≡ q
    → choose (test_of o) y z ≡ choose (test_of o) p q
chosen_open o y z p q f e = chosen o y z p q f (λ n. e)

-- `&&` with a left side that is False, or fails, is that side alone
false_alone : (o p : Outcome) → HasFound (Some (TBool False)) o → o ≡ of_test (and_test (test_of o) (test_of p))
false_alone (Gives (VBool true)) p h = cc
false_alone (Gives (VBool false)) p h = refl
false_alone (Gives v) p h = absurd h
false_alone (Fails f) p h = refl

-- `||` with a left side that is True, or fails, is that side alone
true_alone : (o p : Outcome) → HasFound (Some (TBool True)) o → o ≡ of_test (or_test (test_of o) (test_of p))
true_alone (Gives (VBool true)) p h = refl
true_alone (Gives (VBool false)) p h = cc
true_alone (Gives v) p h = absurd h
true_alone (Fails f) p h = refl

-- the right side of `&&` counts only if the left side is true
and_sides : (o p p' : Outcome) → (IsTrueOutcome o → p' ≡ p)
    → of_test (and_test (test_of o) (test_of p')) ≡ of_test (and_test (test_of o) (test_of p))
and_sides (Gives (VBool true)) p p' f = ap (λ z. of_test (test_of z)) (f refl)
and_sides (Gives (VBool false)) p p' f = refl
and_sides (Gives v) p p' f = refl
and_sides (Fails g) p p' f = refl

-- ---- types that were found

true_found : (x : Option Ty) → annotation_passes is_true x ≡ true → x ≡ Some (TBool True)
true_found None h = cc
true_found (Some t) h = ap Some (true_type t h)

false_found : (x : Option Ty) → annotation_passes is_false x ≡ true → x ≡ Some (TBool False)
false_found None h = cc
false_found (Some t) h = ap Some (false_type t h)

module _ (S : TypedTree → Type 0) (Known : Caps → Type 0) (R : Type 0) (world : World) (closed : IsClosed S)
    (gather : (c c' : Caps) → Known c → Known c' → Known (union c c')) (env : TypeEnv) (m : Written) where
  -- ---- `if`

  module _ (l : Option Loc) (o p q : Outcome) (A : Judgment) (B : Caps → Judgment) (E : Judgment) (prior : Caps) (held : Known prior)
      (told : Told S Known R o A) (test : Copies S R world o A)
      (branch : (c : Caps) → Known c → Copies S R world p (B c)) (otherwise : Copies S R world q E) where
    abbrev Whole : Judgment
    Whole = if_rules env m l A B E prior

    abbrev choice : Outcome
    choice = choose (test_of o) p q

    by_test : (a b e : TypedTree) → eval world a ≡ o
        → choose (test_of o) (eval world b) (eval world e) ≡ choice
        → choose (test_of (eval world a)) (eval world b) (eval world e) ≡ choice
    by_test a b e i h = ap (λ z. choose (test_of z) (eval world b) (eval world e)) i ∙ h

    if_derived : (t : Ty) (c : Caps) (x : TypedTree) → Whole.derives t c x → S x → eval world x ≡ choice
    if_derived t c x (if_true {c = k} {c' = k'} {a = a} {b = b} d d') s =
        let w = closed.choice _ a b b s in
        let n = told.derivations (TBool True) k a d w.0 in
        let i = branch (union prior k) (gather prior k held (n.known_at_true tt)) in
        by_test a b b (test.derivations (TBool True) k a d w.0)
        (chosen_true o n.typed (eval world b) p q (i.derivations t k' b d' w.1))
    if_derived t c x (if_false {c = k} {c' = k'} {a = a} {e = e} d d') s =
        let w = closed.choice _ a e e s in
        let n = told.derivations (TBool False) k a d w.0 in
        by_test a e e (test.derivations (TBool False) k a d w.0)
        (chosen_false o n.typed (eval world e) p q (otherwise.derivations t k' e d' w.1))
    if_derived t c x
        (if_open {s = u} {t = v} {u = v'} {c = k} {c' = k'} {c'' = k''} {a = a} {b = b} {e = e} d i j j' d' d'' g) s =
        let w = closed.choice _ a b e s in
        let n = told.derivations u k a d w.0 in
        let f = λ (y : IsTrueOutcome o).
        (branch (union prior k) (gather prior k held (n.known_if_true y))).derivations v k' b d' w.1 in
        by_test a b e (test.derivations u k a d w.0)
        (chosen_open o (eval world b) (eval world e) p q f (otherwise.derivations v' k'' e d'' w.2))

    -- the facts about a test, by the type that was found of it
    found_told : R → (g : Bool) (k : Caps) (a : TypedTree) (fs : List Finding) → Operand env bool_types l A g k a fs
        → (z : Option Ty) → annotation a ≡ z → ToldPart S Known R o z k
    found_told r g k a fs i z e = subst (λ z. ToldPart S Known R o z k) e (told.operands r env bool_types l g k a fs i)

    if_recovery : R → (x : TypedTree) (es : List Finding) → Whole.recovers x es → S x → eval world x ≡ choice
    if_recovery r x es
        (if_true_recovered {succeeded = g} {succeeded' = g'} {c = k} {c' = k'} {a = a} {b = b} {es = fs} {es' = fs'} a' n b' h) s =
        let w = closed.choice _ a b b s in
        let y = found_told r g k a fs a' _ (true_found (annotation a) n) in
        let i = branch (union prior k) (gather prior k held (y.known_at_true tt)) in
        by_test a b b (operand_copied S R world closed.marked r o A test env bool_types l g k a fs a' w.0)
        (chosen_true o y.typed (eval world b) p q
        (part_copied S R world closed.marked r p (B (union prior k)) i g' k' b fs' b' w.1))
    if_recovery r x es
        (if_false_recovered {succeeded = g} {succeeded' = g'} {c = k} {c' = k'} {a = a} {e = b} {es = fs} {es' = fs'} a' n b' h) s =
        let w = closed.choice _ a b b s in
        let y = found_told r g k a fs a' _ (false_found (annotation a) n) in
        by_test a b b (operand_copied S R world closed.marked r o A test env bool_types l g k a fs a' w.0)
        (chosen_false o y.typed (eval world b) p q
        (part_copied S R world closed.marked r q E otherwise g' k' b fs' b' w.1))
    if_recovery r x es
        (if_open_recovered {succeeded = g} {succeeded' = g'} {succeeded'' = g''} {c = k} {c' = k'} {c'' = k''} {a = a} {b = b} {e = z} {es = fs} {es' = fs'} {es'' = fs''}
        a' n n' b' z' h) s =
        let w = closed.choice _ a b z s in
        let y = told.operands r env bool_types l g k a fs a' in
        let f = λ (i : IsTrueOutcome o).
        part_copied S R world closed.marked r p (B (union prior k))
        (branch (union prior k) (gather prior k held (y.known_if_true i))) g' k' b fs' b' w.1 in
        by_test a b z (operand_copied S R world closed.marked r o A test env bool_types l g k a fs a' w.0)
        (chosen_open o (eval world b) (eval world z) p q f
        (part_copied S R world closed.marked r q E otherwise g'' k'' z fs'' z' w.2))

    pub if_copies : Copies S R world choice Whole
    if_copies = record { derivations = if_derived; recoveries = if_recovery }

  -- ---- `&&`

  module _ (l l' : Option Loc) (o p : Outcome) (A : Judgment) (B : Caps → Judgment) (prior : Caps) (held : Known prior)
      (told : ToldLeft S Known R o A) (left : Copies S R world o A)
      (right : (c : Caps) → Known c → Copies S R world p (B c)) where
    abbrev And : Judgment
    And = short_circuit_rules env conjunction m l l' A B prior

    abbrev both : Outcome
    both = of_test (and_test (test_of o) (test_of p))

    by_left : (a b : TypedTree) → eval world a ≡ o
        → of_test (and_test (test_of o) (test_of (eval world b))) ≡ both
        → of_test (and_test (test_of (eval world a)) (test_of (eval world b))) ≡ both
    by_left a b e f = ap (λ z. of_test (and_test (test_of z) (test_of (eval world b)))) e ∙ f

    and_derived : (t : Ty) (c : Caps) (x : TypedTree) → And.derives t c x → S x → eval world x ≡ both
    and_derived t c x (left_ends {s = u} {c = k} {a = a} d g f) s =
        let w = closed.marked _ a s in
        eval_marked world _ a ∙ left.derivations u k a d w
        ∙ false_alone o p (told.false_derived k a (subst (λ z. A.derives z k a) (false_type u f) d) w)
    and_derived t c x (both_sides {s = u} {t = v} {c = k} {c' = k'} {a = a} {b = b} d g f d' g') s =
        let w = closed.both _ a b s in
        by_left a b (left.derivations u k a d w.0)
        (and_sides o p (eval world b)
        (λ y. (right (union prior k) (gather prior k held (told.known_if_true u k a d w.0 y))).derivations v k' b d' w.1))

    and_recovery : R → (x : TypedTree) (es : List Finding) → And.recovers x es → S x → eval world x ≡ both
    and_recovery r x es (left_ends_failed {c = k} {a = a} a' n) s =
        let w = closed.marked _ a s in
        eval_marked world _ a ∙ operand_copied S R world closed.marked r o A left env bool_types l false k a es a' w
        ∙ false_alone o p (told.false_recovered r env bool_types l false k a es a' (false_found (annotation a) n))
    and_recovery r x es
        (side_failed {succeeded = g} {succeeded' = g'} {c = k} {c' = k'} {a = a} {b = b} {es = fs} {es' = fs'} a' n b' h) s =
        let w = closed.both _ a b s in
        by_left a b (operand_copied S R world closed.marked r o A left env bool_types l g k a fs a' w.0)
        (and_sides o p (eval world b)
        (λ i. operand_copied S R world closed.marked r p (B (union prior k))
        (right (union prior k) (gather prior k held (told.known_if_recovered r env bool_types l g k a fs a' i))) env bool_types l' g' k' b fs' b' w.1))

    pub and_copies : Copies S R world both And
    and_copies = record { derivations = and_derived; recoveries = and_recovery }

  -- ---- `||`

  module _ (l l' : Option Loc) (o p : Outcome) (A : Judgment) (B : Caps → Judgment) (prior : Caps)
      (told : Told S Known R o A) (left : Copies S R world o A) (right : Copies S R world p (B prior)) where
    abbrev Or : Judgment
    Or = short_circuit_rules env disjunction m l l' A B prior

    abbrev either : Outcome
    either = of_test (or_test (test_of o) (test_of p))

    sides : (a b : TypedTree) → eval world a ≡ o → eval world b ≡ p
        → of_test (or_test (test_of (eval world a)) (test_of (eval world b))) ≡ either
    sides a b e f = λ i. of_test (or_test (test_of (e i)) (test_of (f i)))

    or_derived : (t : Ty) (c : Caps) (x : TypedTree) → Or.derives t c x → S x → eval world x ≡ either
    or_derived t c x (left_ends {s = u} {c = k} {a = a} d g f) s =
        let w = closed.marked _ a s in
        let n = told.derivations u k a d w in
        eval_marked world _ a ∙ left.derivations u k a d w
        ∙ true_alone o p (subst (λ z. HasFound (Some z) o) (true_type u f) n.typed)
    or_derived t c x (both_sides {s = u} {t = v} {c = k} {c' = k'} {a = a} {b = b} d g f d' g') s =
        let w = closed.either _ a b s in
        sides a b (left.derivations u k a d w.0) (right.derivations v k' b d' w.1)

    or_recovery : R → (x : TypedTree) (es : List Finding) → Or.recovers x es → S x → eval world x ≡ either
    or_recovery r x es (left_ends_failed {c = k} {a = a} a' n) s =
        let w = closed.marked _ a s in
        let y = told.operands r env bool_types l false k a es a' in
        eval_marked world _ a ∙ operand_copied S R world closed.marked r o A left env bool_types l false k a es a' w
        ∙ true_alone o p (subst (λ z. HasFound z o) (true_found (annotation a) n) y.typed)
    or_recovery r x es
        (side_failed {succeeded = g} {succeeded' = g'} {c = k} {c' = k'} {a = a} {b = b} {es = fs} {es' = fs'} a' n b' h) s =
        let w = closed.either _ a b s in
        sides a b (operand_copied S R world closed.marked r o A left env bool_types l g k a fs a' w.0)
        (operand_copied S R world closed.marked r p (B prior) right env bool_types l' g' k' b fs' b' w.1)

    pub or_copies : Copies S R world either Or
    or_copies = record { derivations = or_derived; recoveries = or_recovery }
