-- Inference answers exactly as the rules do, for a part and for the whole that goes on with it.
use Rattle.std.proofs.Common.{◌≡◌, Bool, true, false, List, [], ◌∷◌, ◌++◌, Option, Some, None, refl, sym, ◌∙◌, ap, subst, append_assoc}
use Rattle.std.specs.Prelude.{if◌then◌else◌}
use Rattle.cedar_types.specs.declared.base.location.Loc.{Loc}
use Rattle.cedar_types.specs.Types.{Ty}
use Rattle.cedar_types.specs.Types.Order.{in_order}
use Rattle.cedar_types.specs.Errors.{Finding, unexpected_type}
use Rattle.cedar_typing.specs.Capabilities.{Caps, no_caps}
use Rattle.cedar_typing.specs.Infer.Parts.{success, failure, limit, Answer, Part, part_with, part_from, as_failed_untyped, AnswerAndErrors}
use Rattle.cedar_typing.specs.Infer.Parts.{PartAndErrors, expect_type, expect, after, any_part}
use Rattle.cedar_typing.specs.Judgments.{derived, recovered, accepted, refused, missing, the_part, the_cut, Derivation, Cut, Judgment}
use Rattle.cedar_typing.specs.Judgments.{Giving, PartResult, Operand, PartOrCut}
use Rattle.cedar_typing.specs.TypeEnv.{TypeEnv, finding}
use Rattle.cedar_typing.specs.TypeTests.{accepts, annotation_passes}
use Rattle.cedar_typing.specs.TypedExpr.{TypedTree, annotation}

-- the answer and its errors, by the rules
pub data Answers (J : Judgment) : Answer → List Finding → Type 0 where
  a_derived : {t : Ty} {c : Caps} {e : TypedTree} → J.derives t c e → Answers J (success e c) []
  a_recovered : {e : TypedTree} {es : List Finding} → J.recovers e es → Answers J (failure e) es
  a_cut : {es : List Finding} → J.cuts es → Answers J limit es

-- the answer of the rules, and the errors that are added to the errors es
pub record Found (J : Judgment) (o : AnswerAndErrors) (es : List Finding) : Type 0 where
  pub answer : Answer
  pub added : List Finding
  pub is : o ≡ (answer, es ++ added)
  pub rules : Answers J answer added

-- each derivation has its type at the root of its copy
abbrev pub Marks : Derivation → Type 0
Marks D = (t : Ty) (c : Caps) (e : TypedTree) → D t c e → annotation e ≡ Some t

-- j answers exactly as the rules do
pub record Agrees (j : List Finding → AnswerAndErrors) (J : Judgment) : Type 0 where
  pub found : (es : List Finding) → Found J (j es) es
  pub only : (es : List Finding) (a : Answer) (added : List Finding) → Answers J a added → j es ≡ (a, es ++ added)
  pub marks : Marks J.derives

-- the result of a part: it is handed on, or it is cut
pub data PartAnswer (H : Giving) (C : Cut) : Option Part → List Finding → Type 0 where
  is_given : {succeeded : Bool} {c : Caps} {e : TypedTree} {es : List Finding} → H succeeded c e es
      → PartAnswer H C (Some (part_with succeeded c e)) es
  is_cut : {es : List Finding} → C es → PartAnswer H C None es

-- the result of a part, and the errors that are added to the errors es
pub record PartFound (H : Giving) (C : Cut) (o : PartAndErrors) (es : List Finding) : Type 0 where
  pub operand : Option Part
  pub added : List Finding
  pub is : o ≡ (operand, es ++ added)
  pub rules : PartAnswer H C operand added

-- the result of a part with an expected type
abbrev pub OperandAnswer : TypeEnv → List Ty → Option Loc → Judgment → Option Part → List Finding → Type 0
OperandAnswer env ts l J = PartAnswer (Operand env ts l J) J.cuts

abbrev pub OperandFound : TypeEnv → List Ty → Option Loc → Judgment → PartAndErrors → List Finding → Type 0
OperandFound env ts l J = PartFound (Operand env ts l J) J.cuts

module _ (env : TypeEnv) (ts : List Ty) (l : Option Loc) (J : Judgment) where
  tested : (succeeded : Bool) (c : Caps) (e : TypedTree) (es added : List Finding) (t : Ty) (b : Bool)
      → annotation e ≡ Some t → accepts ts t ≡ b → PartResult J succeeded c e added
      → OperandFound env ts l J
      (if b then (Some (part_with succeeded c e), es ++ added)
      else (
        Some (as_failed_untyped (part_with succeeded c e)),
        (es ++ added) ++ finding env l (unexpected_type (in_order ts) t) ∷ [],
      )) es
  tested succeeded c e es added t true n h p = record { operand = _; added = added; is = refl; rules = is_given (accepted t p n h) }
  tested succeeded c e es added t false n h p =
      record {
        operand = _;
        added = added ++ finding env l (unexpected_type (in_order ts) t) ∷ [];
        is =
            rw append_assoc refl;
        rules = is_given (refused t p n h);
      }

  by_annotation : (succeeded : Bool) (c : Caps) (e : TypedTree) (es added : List Finding) (x : Option Ty)
      → annotation e ≡ x → PartResult J succeeded c e added
      → OperandFound env ts l J (expect_type env ts l (part_with succeeded c e) (es ++ added) x) es
  by_annotation succeeded c e es added None n p = record { operand = _; added = added; is = refl; rules = is_given (missing p n) }
  by_annotation succeeded c e es added (Some t) n p = tested succeeded c e es added t (accepts ts t) n refl p

  by_answer : (es added : List Finding) (a : Answer) → Answers J a added → OperandFound env ts l J (expect env ts l (a, es ++ added)) es
  by_answer es added a (a_derived {c = c} {e = e} h) = by_annotation true c e es [] (annotation e) refl (derived h)
  by_answer es added a (a_recovered {e = e} h) = by_annotation false no_caps e es added (annotation e) refl (recovered h)
  by_answer es added a (a_cut h) = record { operand = None; added = added; is = refl; rules = is_cut h }

  pub operand_found : (o : AnswerAndErrors) (es : List Finding) → Found J o es → OperandFound env ts l J (expect env ts l o) es
  operand_found o es f =
      let P : AnswerAndErrors → Type 0 = λ o. OperandFound env ts l J (expect env ts l o) es in
      subst P (sym f.is) (by_answer es f.added f.answer f.rules)

  -- an operand that succeeded is derived, without errors
  pub record Good (c : Caps) (e : TypedTree) (es : List Finding) : Type 0 where
    pub ty : Ty
    pub derived : J.derives ty c e
    pub mark : annotation e ≡ Some ty
    pub passes : accepts ts ty ≡ true
    pub silent : es ≡ []

  good_part : (c : Caps) (e : TypedTree) (es : List Finding) (t : Ty) → Marks J.derives → annotation e ≡ Some t
      → accepts ts t ≡ true → PartResult J true c e es → Good c e es
  good_part c e es t m n h (derived {t = u} s) =
      let same : Some t ≡ Some u = sym n ∙ m u c e s in
      let q : t ≡ u = cc in
      record { ty = u; derived = s; mark = m u c e s; passes = sym (ap (accepts ts) q) ∙ h; silent = refl }

  pub good_operand : (c : Caps) (e : TypedTree) (es : List Finding) → Marks J.derives → Operand env ts l J true c e es → Good c e es
  good_operand c e es m (accepted t p n h) = good_part c e es t m n h p

module _ (J : Judgment) where
  -- an answer from the errors es0 is one from the errors es, if the errors between them were added
  -- before
  pub later : (o : AnswerAndErrors) (es0 es before : List Finding) → es0 ≡ es ++ before → (a : Answer)
      (added : List Finding) → o ≡ (a, es0 ++ added) → Answers J a (before ++ added) → Found J o es
  later o es0 es before b a added e r =
      record { answer = a; added = before ++ added; is = e ∙ rw (b, append_assoc) refl; rules = r }

  -- typing goes on with a part
  after_answer : (H : Giving) (C0 : Cut) (es0 es before : List Finding) (k : Part → List Finding → AnswerAndErrors) → es0 ≡ es ++ before
      → ((added : List Finding) → C0 added → J.cuts (before ++ added))
      → ((succeeded : Bool) (c : Caps) (e : TypedTree) (added : List Finding) → H succeeded c e added
      → Found J (k (part_with succeeded c e) (es0 ++ added)) es)
      → (g : Option Part) (added : List Finding) → PartAnswer H C0 g added → Found J (after (g, es0 ++ added) k) es
  after_answer H C0 es0 es before k b cut on g added (is_given {succeeded = succeeded} {c = c} {e = e} p) = on succeeded c e added p
  after_answer H C0 es0 es before k b cut on g added (is_cut h) = later _ es0 es before b limit added refl (a_cut (cut added h))

  pub after_part : (H : Giving) (C0 : Cut) (es0 es before : List Finding) (k : Part → List Finding → AnswerAndErrors) → es0 ≡ es ++ before
      → ((added : List Finding) → C0 added → J.cuts (before ++ added))
      → ((succeeded : Bool) (c : Caps) (e : TypedTree) (added : List Finding) → H succeeded c e added
      → Found J (k (part_with succeeded c e) (es0 ++ added)) es)
      → (o : PartAndErrors) → PartFound H C0 o es0 → Found J (after o k) es
  after_part H C0 es0 es before k b cut on o f =
      let P : PartAndErrors → Type 0 = λ o. Found J (after o k) es in
      subst P (sym f.is) (after_answer H C0 es0 es before k b cut on f.operand f.added f.rules)

  -- typing goes on with an operand
  pub after_operand : (env : TypeEnv) (ts : List Ty) (l : Option Loc) (J0 : Judgment) (es0 es before : List Finding)
      (k : Part → List Finding → AnswerAndErrors) → es0 ≡ es ++ before
      → ((added : List Finding) → J0.cuts added → J.cuts (before ++ added))
      → ((succeeded : Bool) (c : Caps) (e : TypedTree) (added : List Finding)
      → Operand env ts l J0 succeeded c e added → Found J (k (part_with succeeded c e) (es0 ++ added)) es)
      → (o : PartAndErrors) → OperandFound env ts l J0 o es0 → Found J (after o k) es
  after_operand env ts l J0 es0 es before k b cut on o f = after_part (Operand env ts l J0) J0.cuts es0 es before k b cut on o f

-- ---- each result of the rules is answered

module _ (env : TypeEnv) (ts : List Ty) (l : Option Loc) (J : Judgment) (j : List Finding → AnswerAndErrors) (base : Agrees j J) where
  part_only : (succeeded : Bool) (c : Caps) (e : TypedTree) (added : List Finding)
      → PartResult J succeeded c e added → (es : List Finding)
      → expect env ts l (j es) ≡ expect_type env ts l (part_with succeeded c e) (es ++ added) (annotation e)
  part_only succeeded c e added (derived h) es = ap (expect env ts l) (base.only es _ _ (a_derived h))
  part_only succeeded c e added (recovered h) es = ap (expect env ts l) (base.only es _ _ (a_recovered h))

  pub operand_only : (succeeded : Bool) (c : Caps) (e : TypedTree) (added : List Finding)
      → Operand env ts l J succeeded c e added → (es : List Finding)
      → expect env ts l (j es) ≡ (Some (part_with succeeded c e), es ++ added)
  operand_only succeeded c e added (accepted t p n h) es = part_only succeeded c e added p es ∙ rw (n, h) refl
  operand_only succeeded c e added (refused {succeeded = g} {c = c0} {e = e0} {es = before} t p n h) es =
      part_only g c0 e0 before p es ∙ rw (n, h, append_assoc) refl
  operand_only succeeded c e added (missing {succeeded = g} {c = c0} p n) es = part_only g c0 e added p es ∙ rw n refl

  pub cut_only : (added : List Finding) → J.cuts added → (es : List Finding) → expect env ts l (j es) ≡ (None, es ++ added)
  cut_only added h es = ap (expect env ts l) (base.only es _ _ (a_cut h))

  pub derived_operand : (t : Ty) (c : Caps) (e : TypedTree) → J.derives t c e → accepts ts t ≡ true → Operand env ts l J true c e []
  derived_operand t c e s h = accepted t (derived s) (base.marks t c e s) h

-- a test of the type at a root has the result of the test of its annotation
pub says_at : (test : Ty → Bool) (x : Option Ty) (t : Ty) (b : Bool) → x ≡ Some t → annotation_passes test x ≡ b → test t ≡ b
says_at test x t b e h = sym (ap (annotation_passes test) e) ∙ h

-- ---- parts that may be anything

module _ (J : Judgment) where
  part_answer : (a : Answer) (es : List Finding) → Answers J a es → PartAnswer (PartResult J) J.cuts (part_from a) es
  part_answer a es (a_derived h) = is_given (derived h)
  part_answer a es (a_recovered h) = is_given (recovered h)
  part_answer a es (a_cut h) = is_cut h

  pub part_found : (o : AnswerAndErrors) (es : List Finding) → Found J o es → PartFound (PartResult J) J.cuts (any_part o) es
  part_found o es f =
      record {
        operand = part_from f.answer;
        added = f.added;
        is = ap any_part f.is;
        rules =
            part_answer f.answer f.added f.rules;
      }

  pub part_visited : (g : Option Part) (es : List Finding) → PartAnswer (PartResult J) J.cuts g es → PartOrCut J es
  part_visited g es (is_given p) = the_part p
  part_visited g es (is_cut h) = the_cut h

  pub visited_answer : (es : List Finding) → PartOrCut J es → (g : Option Part) × PartAnswer (PartResult J) J.cuts g es
  visited_answer es (the_part p) = (_, is_given p)
  visited_answer es (the_cut h) = (None, is_cut h)

  -- each result of the rules for the part is answered
  pub any_only : (j : List Finding → AnswerAndErrors) → Agrees j J → (g : Option Part) (added : List Finding)
      → PartAnswer (PartResult J) J.cuts g added → (es : List Finding) → any_part (j es) ≡ (g, es ++ added)
  any_only j base g added (is_given (derived h)) es = ap any_part (base.only es _ _ (a_derived h))
  any_only j base g added (is_given (recovered h)) es = ap any_part (base.only es _ _ (a_recovered h))
  any_only j base g added (is_cut h) es = ap any_part (base.only es _ _ (a_cut h))

  -- a part that succeeded is derived, without errors
  pub record GoodPart (c : Caps) (e : TypedTree) (es : List Finding) : Type 0 where
    pub ty : Ty
    pub derived : J.derives ty c e
    pub mark : annotation e ≡ Some ty
    pub silent : es ≡ []

  pub good_part_of : (c : Caps) (e : TypedTree) (es : List Finding) → Marks J.derives → PartResult J true c e es → GoodPart c e es
  good_part_of c e es m (derived {t = t} s) = record { ty = t; derived = s; mark = m t c e s; silent = refl }
