-- `if` is inferred by its rules.
use Rattle.std.proofs.Common.{◌≡◌, Bool, true, false, ◌&&◌, List, [], ◌++◌, Option, refl, sym, ◌∙◌, ap, subst, append_assoc, append-nil}
use Rattle.std.specs.Prelude.{is_some, if◌then◌else◌}
use Rattle.cedar_types.specs.declared.base.errors.type_errors.LubContext.TheVariants.{Conditional}
use Rattle.cedar_types.specs.declared.base.location.Loc.{Loc}
use Rattle.cedar_types.specs.declared.base.types.BoolType.TheVariants.{True, False}
use Rattle.cedar_types.specs.Types.{Ty, TBool}
use Rattle.cedar_types.specs.Expressions.Tree.{if_then_else}
use Rattle.cedar_types.specs.Expressions.View.{Written}
use Rattle.cedar_types.specs.Errors.{Finding}
use Rattle.cedar_typing.specs.Capabilities.{Caps, union, intersection}
use Rattle.cedar_typing.specs.Infer.Conditional.{infer_constant_test, infer_open_branches, infer_branches}
use Rattle.cedar_typing.specs.Infer.Parts.{success, Answer, part_with, answer_if, AnswerAndErrors, expect, after, any_part}
use Rattle.cedar_typing.specs.TypeTests.Joins.{joined, bound_errors, join_errors}
use Rattle.cedar_typing.specs.Judgments.{derived, Judgment, PartResult, Operand}
use Rattle.cedar_typing.specs.Rules.Conditional.{if_true_recovered, if_false_recovered, if_open_recovered, if_test_cut, if_true_cut}
use Rattle.cedar_typing.specs.Rules.Conditional.{if_false_cut, if_then_cut, if_else_cut, if_true, if_false, if_open, if_rules}
use Rattle.cedar_typing.specs.TypeEnv.{TypeEnv}
use Rattle.cedar_typing.specs.TypeTests.{bool_types, is_false, is_true, annotation_passes}
use Rattle.cedar_typing.specs.TypedExpr.{TypedTree, typed_as, annotation}
use Rattle.cedar_typing.proofs.Agreement.OpenTest.{Answered as AnsweredBy, Branch as BranchOf, open_found, open_typed, open_then_cut, open_else_cut}
use Rattle.cedar_typing.proofs.Agreement.Parts.{is_given, is_cut, a_derived, a_recovered, a_cut, Found, Marks, Agrees}
use Rattle.cedar_typing.proofs.Agreement.Parts.{operand_found, good_operand, later, after_operand, after_part, operand_only, cut_only}
use Rattle.cedar_typing.proofs.Agreement.Parts.{derived_operand, part_found, any_only, good_part_of, says_at}
use Rattle.cedar_typing.proofs.TypeTests.{true_type, false_type, false_is_not_true}

module _ (env : TypeEnv) (m : Written) (l : Option Loc) (A : Judgment) (B : Caps → Judgment) (E : Judgment) (prior : Caps)
    (jt : List Finding → AnswerAndErrors) (jb : Caps → List Finding → AnswerAndErrors)
    (je : List Finding → AnswerAndErrors) (test : Agrees jt A) (branch : (p : Caps) → Agrees (jb p) (B p))
    (otherwise : Agrees je E) where
  abbrev Rules : Judgment
  Rules = if_rules env m l A B E prior

  abbrev Answered : Answer → List Finding → Type 0
  Answered = AnsweredBy env m l A B E prior

  abbrev Branch : Caps → Bool → Caps → TypedTree → List Finding → Type 0
  Branch = BranchOf env m l A B E prior

  abbrev whole : List Finding → AnswerAndErrors
  whole es = after (expect env bool_types l (jt es)) (λ p es'. infer_branches env m prior p es' jb je)

  -- the typed whole in which x stands for both branches
  abbrev constant : TypedTree → TypedTree → TypedTree
  constant a x = if_then_else (typed_as (annotation x) m) a x x

  -- the test is True, and the test and its branch succeed
  true_well : (c c' : Caps) (a b : TypedTree) (es es' : List Finding) → Operand env bool_types l A true c a es
      → annotation_passes is_true (annotation a) ≡ true → Branch c true c' b es'
      → Answered (success (constant a b) (union c c')) (es ++ es')
  true_well c c' a b es es' o n p =
      let g = good_operand env bool_types l A c a es test.marks o in
      let t : g.ty ≡ TBool True = true_type g.ty (says_at is_true _ _ _ g.mark n) in
      let g' = good_part_of (B (union prior c)) c' b es' (branch (union prior c)).marks p in
      let Q : Ty → Type 0 = λ y. A.derives y c a in
      let S : Option Ty → Type 0 = λ y. Answered (success (if_then_else (typed_as y m) a b b) (union c c')) [] in
      let P : List Finding → Type 0 = λ z. Answered (success (constant a b) (union c c')) z in
      let r : [] ≡ es ++ es' = sym (ap (λ z. z ++ es') g.silent ∙ g'.silent) in
      subst P r (subst S (sym g'.mark) (a_derived (if_true (subst Q t g.derived) g'.derived)))

  true_joined : (succeeded succeeded' : Bool) (c c' : Caps) (a b : TypedTree) (es es' : List Finding)
      → Operand env bool_types l A succeeded c a es → annotation_passes is_true (annotation a) ≡ true
      → Branch c succeeded' c' b es'
      → Answered (answer_if (succeeded && succeeded') (constant a b) (union c c')) (es ++ es')
  true_joined true true c c' a b es es' o n p = true_well c c' a b es es' o n p
  true_joined false succeeded' c c' a b es es' o n p = a_recovered (if_true_recovered o n p refl)
  true_joined true false c c' a b es es' o n p = a_recovered (if_true_recovered o n p refl)

  -- the test is False, and the test and its branch succeed
  false_well : (c c' : Caps) (a e : TypedTree) (es es' : List Finding) → Operand env bool_types l A true c a es
      → annotation_passes is_false (annotation a) ≡ true → PartResult E true c' e es'
      → Answered (success (constant a e) c') (es ++ es')
  false_well c c' a e es es' o n p =
      let g = good_operand env bool_types l A c a es test.marks o in
      let t : g.ty ≡ TBool False = false_type g.ty (says_at is_false _ _ _ g.mark n) in
      let g' = good_part_of E c' e es' otherwise.marks p in
      let Q : Ty → Type 0 = λ y. A.derives y c a in
      let S : Option Ty → Type 0 = λ y. Answered (success (if_then_else (typed_as y m) a e e) c') [] in
      let P : List Finding → Type 0 = λ z. Answered (success (constant a e) c') z in
      let r : [] ≡ es ++ es' = sym (ap (λ z. z ++ es') g.silent ∙ g'.silent) in
      subst P r (subst S (sym g'.mark) (a_derived (if_false (subst Q t g.derived) g'.derived)))

  false_joined : (succeeded succeeded' : Bool) (c c' : Caps) (a e : TypedTree) (es es' : List Finding)
      → Operand env bool_types l A succeeded c a es → annotation_passes is_false (annotation a) ≡ true
      → PartResult E succeeded' c' e es'
      → Answered (answer_if (succeeded && succeeded') (constant a e) c') (es ++ es')
  false_joined true true c c' a e es es' o n p = false_well c c' a e es es' o n p
  false_joined false succeeded' c c' a e es es' o n p = a_recovered (if_false_recovered o n p refl)
  false_joined true false c c' a e es es' o n p = a_recovered (if_false_recovered o n p refl)

  -- by cases of the test's type
  by_test : (succeeded : Bool) (c : Caps) (a : TypedTree) (es added : List Finding) (x y : Bool)
      → annotation_passes is_true (annotation a) ≡ x → annotation_passes is_false (annotation a) ≡ y
      → Operand env bool_types l A succeeded c a added
      → Found Rules (if x then after (any_part (jb (union prior c) (es ++ added)))
      (λ b es'. (infer_constant_test m (part_with succeeded c a) b (union c b.capabilities), es')) else if y
      then after (any_part (je (es ++ added)))
      (λ e es'. (infer_constant_test m (part_with succeeded c a) e e.capabilities, es'))
      else infer_open_branches env m (part_with succeeded c a) (jb (union prior c) (es ++ added)) je) es
  by_test succeeded c a es added true y n n' o =
      after_part Rules (Branch c) (B (union prior c)).cuts (es ++ added) es added _ refl (λ z h. if_true_cut o n h)
      (λ succeeded' c' b z p. later Rules _ (es ++ added) es added refl _ z refl
      (true_joined succeeded succeeded' c c' a b added z o n p)) _
      (part_found (B (union prior c)) _ _ ((branch (union prior c)).found (es ++ added)))
  by_test succeeded c a es added false true n n' o =
      after_part Rules (PartResult E) E.cuts (es ++ added) es added _ refl (λ z h. if_false_cut o n' h)
      (λ succeeded' c' e z p. later Rules _ (es ++ added) es added refl _ z refl
      (false_joined succeeded succeeded' c c' a e added z o n' p)) _
      (part_found E _ _ (otherwise.found (es ++ added)))
  by_test succeeded c a es added false false n n' o =
      open_found env m l A B E prior jt jb je test branch otherwise succeeded c a es added o n n'

  if_found : (es : List Finding) → Found Rules (whole es) es
  if_found es =
      after_operand Rules env bool_types l A es es [] _ (sym (append-nil es)) (λ z h. if_test_cut h)
      (λ succeeded c a z o. by_test succeeded c a es z (annotation_passes is_true (annotation a))
      (annotation_passes is_false (annotation a)) refl refl o) _
      (operand_found env bool_types l A _ _ (test.found es))

  if_marks : Marks Rules.derives
  if_marks t c e (if_true _ _) = refl
  if_marks t c e (if_false _ _) = refl
  if_marks t c e (if_open _ _ _ _ _ _ _) = refl

  -- ---- each result of the rules is answered
  module _ (succeeded : Bool) (c : Caps) (a : TypedTree) (added : List Finding)
      (o : Operand env bool_types l A succeeded c a added) (es : List Finding) where
    test_typed : whole es ≡ infer_branches env m prior (part_with succeeded c a) (es ++ added) jb je
    test_typed =
        ap (λ z. after z (λ p es'. infer_branches env m prior p es' jb je))
        (operand_only env bool_types l A jt test succeeded c a added o es)

    on_true : annotation_passes is_true (annotation a) ≡ true
        → whole es ≡ after (any_part (jb (union prior c) (es ++ added)))
        (λ b es'. (infer_constant_test m (part_with succeeded c a) b (union c b.capabilities), es'))
    on_true n = test_typed ∙ rw n refl

    on_false : annotation_passes is_false (annotation a) ≡ true
        → whole es ≡ after (any_part (je (es ++ added)))
        (λ e es'. (infer_constant_test m (part_with succeeded c a) e e.capabilities, es'))
    on_false n = test_typed ∙ rw (false_is_not_true _ n, n) refl

    on_open : annotation_passes is_true (annotation a) ≡ false → annotation_passes is_false (annotation a) ≡ false
        → whole es ≡ infer_open_branches env m (part_with succeeded c a) (jb (union prior c) (es ++ added)) je
    on_open n n' = test_typed ∙ rw (n, n') refl

    true_typed : annotation_passes is_true (annotation a) ≡ true → (succeeded' : Bool) (c' : Caps) (b : TypedTree)
        (x : List Finding) → Branch c succeeded' c' b x
        → whole es ≡ (answer_if (succeeded && succeeded') (constant a b) (union c c'), es ++ (added ++ x))
    true_typed n succeeded' c' b x p =
        on_true n
        ∙ ap
        (λ z. after z
        (λ b es'. (infer_constant_test m (part_with succeeded c a) b (union c b.capabilities), es')))
        (any_only (B (union prior c)) (jb (union prior c)) (branch (union prior c)) _ x (is_given p)
        (es ++ added)) ∙ rw append_assoc refl

    false_typed : annotation_passes is_false (annotation a) ≡ true → (succeeded' : Bool) (c' : Caps) (e : TypedTree)
        (x : List Finding) → PartResult E succeeded' c' e x
        → whole es ≡ (answer_if (succeeded && succeeded') (constant a e) c', es ++ (added ++ x))
    false_typed n succeeded' c' e x p =
        on_false n
        ∙ ap (λ z. after z (λ e es'. (infer_constant_test m (part_with succeeded c a) e e.capabilities, es')))
        (any_only E je otherwise _ x (is_given p) (es ++ added)) ∙ rw append_assoc refl

  if_only : (es : List Finding) (x : Answer) (added : List Finding) → Answered x added → whole es ≡ (x, es ++ added)
  if_only es x added (a_derived (if_true {c = c} {c' = c'} {a = a} {b = b} d d')) =
      true_typed true c a [] (derived_operand env bool_types l A jt test _ c a d refl) es
      (ap (annotation_passes is_true) (test.marks _ c a d)) true c' b [] (derived d')
      ∙ (λ i. (success (if_then_else (typed_as ((branch (union prior c)).marks _ c' b d' i) m) a b b) (union c c'), es ++ []))
  if_only es x added (a_derived (if_false {c = c} {c' = c'} {a = a} {e = e} d d')) =
      false_typed true c a [] (derived_operand env bool_types l A jt test _ c a d refl) es
      (ap (annotation_passes is_false) (test.marks _ c a d)) true c' e [] (derived d')
      ∙ (λ i. (success (if_then_else (typed_as (otherwise.marks _ c' e d' i) m) a e e) c', es ++ []))
  if_only es x added
      (a_derived
      (if_open {s = s} {t = t} {u = u} {v = v} {c = c} {c' = c'} {c'' = c''} {a = a} {b = b} {e = e} d p n n' d' d''
      h)) =
      let o = derived_operand env bool_types l A jt test s c a d p in
      let q : annotation_passes is_true (annotation a) ≡ false = ap (annotation_passes is_true) (test.marks s c a d) ∙ n in
      let q' : annotation_passes is_false (annotation a) ≡ false = ap (annotation_passes is_false) (test.marks s c a d) ∙ n' in
      let k : Option Ty → List Finding
      → AnswerAndErrors = λ y z.
      (answer_if (is_some y) (if_then_else (typed_as y m) a b e) (intersection c'' (union c c')), es ++ z) in
      on_open true c a [] o es q q'
      ∙ open_typed env m l A B E prior jt jb je test branch otherwise true c a es [] o q q' true true c' c'' b e
      [] [] (derived d') (derived d'')
      ∙ (λ i. k (joined env.mode ((branch (union prior c)).marks t c' b d' i) (otherwise.marks u c'' e d'' i))
      (join_errors env m.place Conditional ((branch (union prior c)).marks t c' b d' i)
      (otherwise.marks u c'' e d'' i)))
      ∙ (λ i. k (h i) (bound_errors env m.place Conditional t u (h i)))
  if_only es x added
      (a_recovered
      (if_true_recovered {succeeded = g} {succeeded' = g'} {c = c} {c' = c'} {a = a} {b = b} {es = y} {es' = z} o n
      p h)) =
      true_typed g c a y o es n g' c' b z p ∙ ap (λ k. (answer_if k (constant a b) (union c c'), es ++ (y ++ z))) h
  if_only es x added
      (a_recovered
      (if_false_recovered {succeeded = g} {succeeded' = g'} {c = c} {c' = c'} {a = a} {e = e} {es = y} {es' = z} o n
      p h)) =
      false_typed g c a y o es n g' c' e z p ∙ ap (λ k. (answer_if k (constant a e) c', es ++ (y ++ z))) h
  if_only es x added
      (a_recovered
      (if_open_recovered {succeeded = g} {succeeded' = g'} {succeeded'' = g''} {c = c} {c' = c'} {c'' = c''} {a = a} {b = b} {e = e} {es = y} {es' = z} {es'' = z'}
      o n n' p p' h)) =
      on_open g c a y o es n n'
      ∙ open_typed env m l A B E prior jt jb je test branch otherwise g c a es y o n n' g'
      g'' c' c'' b e z z' p p'
      ∙ ap
      (λ k. (
        answer_if k (if_then_else (typed_as (joined env.mode (annotation b) (annotation e)) m) a b e)
            (intersection c'' (union c c')),
        es ++ added,
      )) h
  if_only es x added (a_cut (if_test_cut h)) =
      ap (λ z. after z (λ p es'. infer_branches env m prior p es' jb je))
      (cut_only env bool_types l A jt test _ h es)
  if_only es x added (a_cut (if_true_cut {succeeded = g} {c = c} {a = a} {es = y} {es' = z} o n h)) =
      on_true g c a y o es n ∙ ap
      (λ z. after z (λ b es'. (infer_constant_test m (part_with g c a) b (union c b.capabilities), es')))
      (any_only (B (union prior c)) (jb (union prior c)) (branch (union prior c)) _ z (is_cut h) (es ++ y))
      ∙ rw append_assoc refl
  if_only es x added (a_cut (if_false_cut {succeeded = g} {c = c} {a = a} {es = y} {es' = z} o n h)) =
      on_false g c a y o es n ∙ ap
      (λ z. after z (λ e es'. (infer_constant_test m (part_with g c a) e e.capabilities, es')))
      (any_only E je otherwise _ z (is_cut h) (es ++ y)) ∙ rw append_assoc refl
  if_only es x added (a_cut (if_then_cut {succeeded = g} {c = c} {a = a} {es = y} {es' = z} {es'' = z'} o n n' h t)) =
      on_open g c a y o es n n' ∙ open_then_cut env m l A B E prior jt jb je test branch otherwise g c a es y o n n' z z' h t
  if_only es x added
      (a_cut
      (if_else_cut {succeeded = g} {succeeded' = g'} {c = c} {c' = c'} {a = a} {b = b} {es = y} {es' = z} {es'' = z'}
      o n n' p h)) =
      on_open g c a y o es n n' ∙ open_else_cut env m l A B E prior jt jb je test branch otherwise g c a es y o n n' g' c' b z z' p h

  pub if_agrees : Agrees whole Rules
  if_agrees = record { found = if_found; only = if_only; marks = if_marks }
