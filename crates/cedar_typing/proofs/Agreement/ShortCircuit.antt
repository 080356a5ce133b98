-- `&&` and `||` are inferred by their rules.
use Rattle.std.proofs.Common.{◌≡◌, Bool, true, false, ◌&&◌, List, [], ◌++◌, Option, Some, None, refl, sym, ◌∙◌, ap, subst, append_assoc}
use Rattle.std.proofs.Common.{append-nil}
use Rattle.std.specs.Prelude.{if◌then◌else◌}
use Rattle.cedar_types.specs.declared.base.location.Loc.{Loc}
use Rattle.cedar_types.specs.Types.{Ty}
use Rattle.cedar_types.specs.Expressions.View.{Written}
use Rattle.cedar_types.specs.Errors.{Finding}
use Rattle.cedar_typing.specs.Capabilities.{Caps}
use Rattle.cedar_typing.specs.Infer.Parts.{Answer, success, failure, part_with, answer_if, AnswerAndErrors, expect, after}
use Rattle.cedar_typing.specs.Infer.ShortCircuit.{infer_sides, infer_right}
use Rattle.cedar_typing.specs.Judgments.{Judgment, Operand}
use Rattle.cedar_typing.specs.Rules.ShortCircuit.{Connective, sides_type, sides_caps, sides_annotation, short_circuit_rules, left_ends}
use Rattle.cedar_typing.specs.Rules.ShortCircuit.{both_sides, left_ends_failed, side_failed, left_cut, right_cut}
use Rattle.cedar_typing.specs.TypeEnv.{TypeEnv}
use Rattle.cedar_typing.specs.TypeTests.{accepts, bool_types, annotation_passes}
use Rattle.cedar_typing.specs.TypedExpr.{TypedTree, Mark, mark_of, typed, annotation, at_place}
use Rattle.cedar_typing.proofs.Agreement.Parts.{Answers, a_derived, a_recovered, a_cut, Found, Marks, Agrees, operand_found, good_operand}
use Rattle.cedar_typing.proofs.Agreement.Parts.{later, after_operand, operand_only, cut_only, derived_operand, says_at}
use Rattle.cedar_typing.proofs.Views.Marks.{annotation-at_place}

sides_failed : (f : Connective) (m : Written) (succeeded succeeded' : Bool) (c c' : Caps) (a b : TypedTree)
    (x y : Option Ty) → (succeeded && succeeded') ≡ false
    → infer_sides f m (part_with succeeded c a) (part_with succeeded' c' b) x y ≡ failure (f.node (typed (sides_annotation f x y) m) a b)
sides_failed f m succeeded succeeded' c c' a b None y h = refl
sides_failed f m succeeded succeeded' c c' a b (Some s) None h = refl
sides_failed f m succeeded succeeded' c c' a b (Some s) (Some t) h = rw h refl

module _ (env : TypeEnv) (f : Connective) (node_mark : (k : Mark) (a b : TypedTree) → mark_of (f.node k a b) ≡ k)
    (m : Written) (l l' : Option Loc) (A : Judgment) (B : Caps → Judgment) (prior : Caps)
    (jl : List Finding → AnswerAndErrors) (jr : Caps → List Finding → AnswerAndErrors) (left : Agrees jl A)
    (right : (p : Caps) → Agrees (jr p) (B p)) where
  abbrev Rules : Judgment
  Rules = short_circuit_rules env f m l l' A B prior

  abbrev known : Caps → Caps
  known c = f.right_prior prior c

  abbrev whole : List Finding → AnswerAndErrors
  whole es = after (expect env bool_types l (jl es)) (λ p es'. infer_right env f m l' prior p es' jr)

  abbrev Left : Bool → Caps → TypedTree → List Finding → Type 0
  Left = Operand env bool_types l A

  abbrev Right : Caps → Bool → Caps → TypedTree → List Finding → Type 0
  Right c = Operand env bool_types l' (B (known c))

  abbrev Sides : Bool → Bool → Caps → Caps → TypedTree → TypedTree → Answer
  Sides succeeded succeeded' c c' a b = infer_sides f m (part_with succeeded c a) (part_with succeeded' c' b) (annotation a) (annotation b)

  abbrev ends_at : TypedTree → Bool
  ends_at a = annotation_passes f.ends (annotation a)

  -- inference of the right side, after a left side that does not end the whole
  abbrev on_right : Bool → Caps → TypedTree → List Finding → AnswerAndErrors
  on_right succeeded c a es =
      after (expect env bool_types l' (jr (known c) es))
      (λ p es'. (infer_sides f m (part_with succeeded c a) p (annotation a) (annotation p.tree), es'))

  -- both sides succeeded
  both_good : (s t : Ty) (c c' : Caps) (a b : TypedTree) → A.derives s c a → annotation a ≡ Some s
      → accepts bool_types s ≡ true → f.ends s ≡ false
      → (B (known c)).derives t c' b → annotation b ≡ Some t → accepts bool_types t ≡ true → Answers Rules (Sides true true c c' a b) []
  both_good s t c c' a b d da p n d' db q =
      let P : Answer → Type 0 = λ x. Answers Rules x [] in
      let e : Sides true true c c' a b ≡ success (f.node (typed (sides_type f s t) m) a b) (sides_caps f s t c c') =
      λ i. infer_sides f m (part_with true c a) (part_with true c' b) (da i) (db i) in
      subst P (sym e) (a_derived (both_sides d p n d' q))

  both_broken : (succeeded succeeded' : Bool) (c c' : Caps) (a b : TypedTree) (es es' : List Finding)
      → Left succeeded c a es → ends_at a ≡ false → Right c succeeded' c' b es' → (succeeded && succeeded') ≡ false
      → Answers Rules (Sides succeeded succeeded' c c' a b) (es ++ es')
  both_broken succeeded succeeded' c c' a b es es' o n o' h =
      let P : Answer → Type 0 = λ x. Answers Rules x (es ++ es') in
      subst P (sym (sides_failed f m succeeded succeeded' c c' a b _ _ h)) (a_recovered (side_failed o n o' h))

  -- both sides were typed
  both_typed : (succeeded succeeded' : Bool) (c c' : Caps) (a b : TypedTree) (es es' : List Finding)
      → Left succeeded c a es → ends_at a ≡ false → Right c succeeded' c' b es'
      → Answers Rules (Sides succeeded succeeded' c c' a b) (es ++ es')
  both_typed true true c c' a b es es' o n o' =
      let g = good_operand env bool_types l A c a es left.marks o in
      let g' = good_operand env bool_types l' (B (known c)) c' b es' (right (known c)).marks o' in
      let P : List Finding → Type 0 = λ x. Answers Rules (Sides true true c c' a b) x in
      let e : [] ≡ es ++ es' = sym (ap (λ x. x ++ es') g.silent ∙ g'.silent) in
      subst P e (both_good g.ty g'.ty c c' a b g.derived g.mark g.passes (says_at f.ends _ _ _ g.mark n) g'.derived g'.mark g'.passes)
  both_typed false succeeded' c c' a b es es' o n o' = both_broken false succeeded' c c' a b es es' o n o' refl
  both_typed true false c c' a b es es' o n o' = both_broken true false c c' a b es es' o n o' refl

  -- the left side ends the whole
  ended : (succeeded : Bool) (c : Caps) (a : TypedTree) (es : List Finding) → Left succeeded c a es
      → ends_at a ≡ true → Answers Rules (answer_if succeeded (at_place m.place a) (f.ended_caps c)) es
  ended false c a es o n = a_recovered (left_ends_failed o n)
  ended true c a es o n =
      let g = good_operand env bool_types l A c a es left.marks o in
      let P : List Finding → Type 0 = λ x. Answers Rules (success (at_place m.place a) (f.ended_caps c)) x in
      subst P (sym g.silent) (a_derived (left_ends g.derived g.passes (says_at f.ends _ _ _ g.mark n)))

  by_left : (succeeded : Bool) (c : Caps) (a : TypedTree) (es added : List Finding) (x : Bool) → ends_at a ≡ x → Left succeeded c a added
      → Found Rules (if x then (answer_if succeeded (at_place m.place a) (f.ended_caps c), es ++ added)
      else on_right succeeded c a (es ++ added)) es
  by_left succeeded c a es added true n o = record { answer = _; added = added; is = refl; rules = ended succeeded c a added o n }
  by_left succeeded c a es added false n o =
      after_operand Rules env bool_types l' (B (known c)) (es ++ added) es added _ refl (λ x h. right_cut o n h)
      (λ succeeded' c' b x o'. later Rules _ (es ++ added) es added refl _ x refl
      (both_typed succeeded succeeded' c c' a b added x o n o')) _
      (operand_found env bool_types l' (B (known c)) _ _ ((right (known c)).found (es ++ added)))

  whole_found : (es : List Finding) → Found Rules (whole es) es
  whole_found es =
      after_operand Rules env bool_types l A es es [] _ (sym (append-nil es)) (λ x h. left_cut h)
      (λ succeeded c a x o. by_left succeeded c a es x (ends_at a) refl o) _
      (operand_found env bool_types l A _ _ (left.found es))

  whole_marks : Marks Rules.derives
  whole_marks t c e (left_ends {a = a} h _ _) = annotation-at_place m.place a ∙ left.marks _ _ _ h
  whole_marks t c e (both_sides {a = a} {b = b} _ _ _ _ _) = ap (λ (k : Mark). k.ty) (node_mark _ a b)

  -- ---- each result of the rules is answered

  left_typed : (succeeded : Bool) (c : Caps) (a : TypedTree) (added : List Finding) → Left succeeded c a added
      → (es : List Finding) → whole es ≡ infer_right env f m l' prior (part_with succeeded c a) (es ++ added) jr
  left_typed succeeded c a added o es =
      ap (λ z. after z (λ p es'. infer_right env f m l' prior p es' jr))
      (operand_only env bool_types l A jl left succeeded c a added o es)

  left_alone : (succeeded : Bool) (c : Caps) (a : TypedTree) (added : List Finding) → Left succeeded c a added
      → ends_at a ≡ true → (es : List Finding)
      → whole es ≡ (answer_if succeeded (at_place m.place a) (f.ended_caps c), es ++ added)
  left_alone succeeded c a added o n es = left_typed succeeded c a added o es ∙ rw n refl

  right_from : (succeeded : Bool) (c : Caps) (a : TypedTree) (added : List Finding) → Left succeeded c a added
      → ends_at a ≡ false → (es : List Finding) → whole es ≡ on_right succeeded c a (es ++ added)
  right_from succeeded c a added o n es = left_typed succeeded c a added o es ∙ rw n refl

  right_typed : (succeeded succeeded' : Bool) (c c' : Caps) (a b : TypedTree) (added added' : List Finding)
      → Left succeeded c a added → ends_at a ≡ false → Right c succeeded' c' b added' → (es : List Finding)
      → whole es ≡ (Sides succeeded succeeded' c c' a b, es ++ (added ++ added'))
  right_typed succeeded succeeded' c c' a b added added' o n o' es =
      right_from succeeded c a added o n es
      ∙ ap
      (λ z. after z
      (λ p es'. (infer_sides f m (part_with succeeded c a) p (annotation a) (annotation p.tree), es')))
      (operand_only env bool_types l' (B (known c)) (jr (known c)) (right (known c))
      succeeded' c' b added' o' (es ++ added))
      ∙ rw append_assoc refl

  whole_only : (es : List Finding) (x : Answer) (added : List Finding) → Answers Rules x added → whole es ≡ (x, es ++ added)
  whole_only es x added (a_derived (left_ends {s = s} {c = c} {a = a} d p h)) =
      left_alone true c a [] (derived_operand env bool_types l A jl left s c a d p)
      (ap (annotation_passes f.ends) (left.marks s c a d) ∙ h) es
  whole_only es x added (a_derived (both_sides {s = s} {t = t} {c = c} {c' = c'} {a = a} {b = b} d p n d' q)) =
      right_typed true true c c' a b [] [] (derived_operand env bool_types l A jl left s c a d p)
      (ap (annotation_passes f.ends) (left.marks s c a d) ∙ n)
      (derived_operand env bool_types l' (B (known c)) _ (right (known c)) t c' b d' q) es
      ∙ (λ i. (
        infer_sides f m (part_with true c a) (part_with true c' b) (left.marks s c a d i)
            ((right (known c)).marks t c' b d' i),
        es ++ [],
      ))
  whole_only es x added (a_recovered (left_ends_failed {c = c} {a = a} o n)) = left_alone false c a added o n es
  whole_only es x added
      (a_recovered
      (side_failed {succeeded = g} {succeeded' = g'} {c = c} {c' = c'} {a = a} {b = b} {es = before} {es' = after'}
      o n o' h)) =
      right_typed g g' c c' a b before after' o n o' es ∙ ap (λ z. (z, es ++ (before ++ after'))) (sides_failed f m g g' c c' a b _ _ h)
  whole_only es x added (a_cut (left_cut h)) =
      ap (λ z. after z (λ p es'. infer_right env f m l' prior p es' jr))
      (cut_only env bool_types l A jl left _ h es)
  whole_only es x added (a_cut (right_cut {succeeded = g} {c = c} {a = a} {es = before} {es' = after'} o n h)) =
      right_from g c a before o n es
      ∙ ap (λ z. after z (λ p es'. (infer_sides f m (part_with g c a) p (annotation a) (annotation p.tree), es')))
      (cut_only env bool_types l' (B (known c)) (jr (known c)) (right (known c)) after' h (es ++ before))
      ∙ rw append_assoc refl

  pub short_circuit_agrees : Agrees whole Rules
  short_circuit_agrees = record { found = whole_found; only = whole_only; marks = whole_marks }
