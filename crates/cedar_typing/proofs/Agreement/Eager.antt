-- Forms whose operands are all typed first are inferred by their rules: one proof for all of them.
use Rattle.std.proofs.Common.{◌≡◌, Bool, true, false, List, [], ◌++◌, Option, Some, None, refl, sym, ◌∙◌, ap, subst, append_assoc}
use Rattle.std.proofs.Common.{append-nil}
use Rattle.cedar_types.specs.declared.base.location.Loc.{Loc}
use Rattle.cedar_types.specs.Types.{Ty}
use Rattle.cedar_types.specs.Errors.{Finding}
use Rattle.cedar_typing.specs.Capabilities.{Caps}
use Rattle.cedar_typing.specs.Eager.{Expectation, meets, Decision, gives, refuses, Form, first_expectation, later_expectations, types_found}
use Rattle.cedar_typing.specs.Infer.Eager.{Operands, all_typed, cut_after, OperandsAndErrors, infer_none, expect_operand, with_operand}
use Rattle.cedar_typing.specs.Infer.Eager.{infer_rest, infer_one_more, infer_decided, infer_form, infer_eager, infer_one_operand}
use Rattle.cedar_typing.specs.Infer.Eager.{infer_two_operands, type_given}
use Rattle.cedar_typing.specs.Infer.Parts.{Answer, success, failure, limit, Part, part_with, AnswerAndErrors, PartAndErrors, answer_if}
use Rattle.cedar_typing.specs.Judgments.{Judgment, Giving, derived}
use Rattle.cedar_typing.specs.Rules.Eager.{Judgments, NoneDerived, none_derived, NoneGiven, none_given, no_operands, ExpectedOperand}
use Rattle.cedar_typing.specs.Rules.Eager.{also_derived, also_given, AfterCut, not_visited, all_given, also_cut, broken_here, broken_later}
use Rattle.cedar_typing.specs.Rules.Eager.{one_more, eager_typed, operand_failed, table_refused, operand_cut, eager_rules}
use Rattle.cedar_typing.specs.Rules.Eager.{one_operand_rules, two_operand_rules}
use Rattle.cedar_typing.specs.TypeEnv.{TypeEnv}
use Rattle.cedar_typing.specs.TypedExpr.{TypedTree, Mark, mark_of, typed, typed_as}
use Rattle.cedar_typing.proofs.Agreement.Parts.{Answers, a_derived, a_recovered, a_cut, Found, Marks, Agrees, PartAnswer, is_given, is_cut}
use Rattle.cedar_typing.proofs.Agreement.Parts.{PartFound, part_found, operand_found, any_only, operand_only, cut_only, derived_operand}
use Rattle.cedar_typing.proofs.Agreement.Parts.{good_operand, good_part_of}

-- ---- an operand with expected types, or one that may be anything

operand_is_found : (env : TypeEnv) (q : Expectation) (l : Option Loc) (J : Judgment) (o : AnswerAndErrors) (es : List Finding)
    → Found J o es → PartFound (ExpectedOperand env q l J) J.cuts (expect_operand env q l o) es
operand_is_found env None l J o es f = part_found J o es f
operand_is_found env (Some ts) l J o es f = operand_found env ts l J o es f

operand_is_only : (env : TypeEnv) (q : Expectation) (l : Option Loc) (J : Judgment) (j : List Finding → AnswerAndErrors) → Agrees j J
    → (g : Option Part) (added : List Finding) → PartAnswer (ExpectedOperand env q l J) J.cuts g added → (es : List Finding)
    → expect_operand env q l (j es) ≡ (g, es ++ added)
operand_is_only env None l J j base g added p es = any_only J j base g added p es
operand_is_only env (Some ts) l J j base g added (is_given p) es = operand_only env ts l J j base _ _ _ added p es
operand_is_only env (Some ts) l J j base g added (is_cut h) es = cut_only env ts l J j base added h es

-- an operand that succeeded is derived, without errors
record GoodOperand (q : Expectation) (J : Judgment) (c : Caps) (e : TypedTree) (es : List Finding) : Type 0 where
  ty : Ty
  derived : J.derives ty c e
  passes : meets q ty ≡ true
  silent : es ≡ []

good : (env : TypeEnv) (q : Expectation) (l : Option Loc) (J : Judgment) (c : Caps) (e : TypedTree) (es : List Finding) → Marks J.derives
    → ExpectedOperand env q l J true c e es → GoodOperand q J c e es
good env None l J c e es m p =
    let g = good_part_of J c e es m p in
    record { ty = g.ty; derived = g.derived; passes = refl; silent = g.silent }
good env (Some ts) l J c e es m p =
    let g = good_operand env ts l J c e es m p in
    record { ty = g.ty; derived = g.derived; passes = g.passes; silent = g.silent }

derived_is_good : (env : TypeEnv) (q : Expectation) (l : Option Loc) (J : Judgment) (j : List Finding → AnswerAndErrors) → Agrees j J
    → (t : Ty) (c : Caps) (e : TypedTree) → J.derives t c e → meets q t ≡ true → ExpectedOperand env q l J true c e []
derived_is_good env None l J j base t c e d h = derived d
derived_is_good env (Some ts) l J j base t c e d h = derived_operand env ts l J j base t c e d h

-- ---- operands, one after another

-- the result of operands, by the rules
pub data OperandsAnswer (Js : Judgments) : Operands → List Finding → Type 0 where
  are_given : {succeeded : Bool} {xs : List TypedTree} {es : List Finding} → Js.give succeeded xs es
      → OperandsAnswer Js (all_typed succeeded xs) es
  one_is_cut : {xs : List TypedTree} {es : List Finding} → Js.break xs es → OperandsAnswer Js (cut_after xs) es

-- the result of the operands, and the errors that are added to the errors es
pub record OperandsFound (Js : Judgments) (o : OperandsAndErrors) (es : List Finding) : Type 0 where
  pub results : Operands
  pub added : List Finding
  pub is : o ≡ (results, es ++ added)
  pub rules : OperandsAnswer Js results added

-- j answers for operands exactly as the rules do
pub record AllAgree (j : List Finding → OperandsAndErrors) (Js : Judgments) : Type 0 where
  pub found : (es : List Finding) → OperandsFound Js (j es) es
  pub only : (es : List Finding) (r : Operands) (added : List Finding) → OperandsAnswer Js r added → j es ≡ (r, es ++ added)
  -- all operands succeed exactly if each is derived, without errors
  pub good : (b : Bool) (xs : List TypedTree) (es : List Finding) → Js.give b xs es → b ≡ true → Js.derive xs × (es ≡ [])
  pub derived : (xs : List TypedTree) → Js.derive xs → Js.give true xs []

none_only : (es : List Finding) (r : Operands) (added : List Finding) → OperandsAnswer no_operands r added
    → infer_none es ≡ (r, es ++ added)
none_only es r added (are_given none_given) = ap (λ l. (all_typed true [], l)) (sym (append-nil es))
none_only es r added (one_is_cut h) = absurd h

none_good : (b : Bool) (xs : List TypedTree) (es : List Finding) → NoneGiven b xs es → b ≡ true → NoneDerived xs × (es ≡ [])
none_good b xs es none_given h = (none_derived, refl)

none_back : (xs : List TypedTree) → NoneDerived xs → NoneGiven true xs []
none_back xs none_derived = none_given

pub none_agrees : AllAgree infer_none no_operands
none_agrees = record {
  found =
      λ es. record {
        results = all_typed true [];
        added = [];
        is = ap (λ l. (all_typed true [], l)) (sym (append-nil es));
        rules =
            are_given none_given;
      };
  only = none_only;
  good = none_good;
  derived = none_back;
}

module _ (env : TypeEnv) (goes_on : Bool) (q : Expectation) (l : Option Loc) (J : Judgment) (j : List Finding → AnswerAndErrors)
    (base : Agrees j J) (rest : List Finding → OperandsAndErrors) (Js : Judgments) (others : AllAgree rest Js) where
  abbrev H : Giving
  H = ExpectedOperand env q l J

  abbrev More : Judgments
  More = one_more env goes_on q l J Js

  abbrev After : Bool → List Finding → Type 0
  After = AfterCut Js

  abbrev whole : List Finding → OperandsAndErrors
  whole = infer_one_more env goes_on q l j rest

  -- the result of the operands after one that is cut
  record LeftFound (go : Bool) (es : List Finding) : Type 0 where
    added : List Finding
    is : infer_rest go None es rest ≡ (cut_after [], es ++ added)
    rules : After go added

  left_by : (r : Operands) (added : List Finding) → OperandsAnswer Js r added → After true added
  left_by r added (are_given h) = all_given h
  left_by r added (one_is_cut b) = also_cut b

  left_found : (go : Bool) (es : List Finding) → LeftFound go es
  left_found true es =
      let r = others.found es in
      record { added = r.added; is = ap (λ (o : OperandsAndErrors). (cut_after [], o.1)) r.is; rules = left_by r.results r.added r.rules }
  left_found false es = record { added = []; is = ap (λ l. (cut_after [], l)) (sym (append-nil es)); rules = not_visited }

  left_only : (go : Bool) (es added : List Finding) → After go added → infer_rest go None es rest ≡ (cut_after [], es ++ added)
  left_only go es added not_visited = ap (λ l. (cut_after [], l)) (sym (append-nil es))
  left_only go es added (all_given h) = ap (λ (o : OperandsAndErrors). (cut_after [], o.1)) (others.only es _ added (are_given h))
  left_only go es added (also_cut b) = ap (λ (o : OperandsAndErrors). (cut_after [], o.1)) (others.only es _ added (one_is_cut b))

  given_then : (es before added : List Finding) (succeeded : Bool) (c : Caps) (x : TypedTree) (r : Operands) → H succeeded c x before
      → OperandsAnswer Js r added → OperandsFound More (with_operand (part_with succeeded c x) r, (es ++ before) ++ added) es
  given_then es before added succeeded c x r p (are_given h) =
      record { results = _; added = before ++ added; is = rw append_assoc refl; rules = are_given (also_given p h) }
  given_then es before added succeeded c x r p (one_is_cut b) =
      record { results = _; added = before ++ added; is = rw append_assoc refl; rules = one_is_cut (broken_later p b) }

  by_answer : (es : List Finding) (g : Option Part) (added : List Finding) → PartAnswer H J.cuts g added
      → OperandsFound More (infer_rest goes_on g (es ++ added) rest) es
  by_answer es g added (is_given {succeeded = succeeded} {c = c} {e = x} p) =
      let r = others.found (es ++ added) in
      let P : OperandsAndErrors → Type 0 = λ o. OperandsFound More (with_operand (part_with succeeded c x) o.0, o.1) es in
      subst P (sym r.is) (given_then es added r.added succeeded c x r.results p r.rules)
  by_answer es g added (is_cut h) =
      let r = left_found goes_on (es ++ added) in
      record {
        results = cut_after [];
        added = added ++ r.added;
        is = r.is ∙ rw append_assoc refl;
        rules =
            one_is_cut (broken_here h r.rules);
      }

  more_found : (es : List Finding) → OperandsFound More (whole es) es
  more_found es =
      let r = operand_is_found env q l J (j es) es (base.found es) in
      let P : PartAndErrors → Type 0 = λ o. OperandsFound More (infer_rest goes_on o.0 o.1 rest) es in
      subst P (sym r.is) (by_answer es r.operand r.added r.rules)

  given_only : (es before added : List Finding) (succeeded : Bool) (c : Caps) (x : TypedTree) (r : Operands) → H succeeded c x before
      → OperandsAnswer Js r added → whole es ≡ (with_operand (part_with succeeded c x) r, es ++ (before ++ added))
  given_only es before added succeeded c x r p h =
      ap (λ (o : PartAndErrors). infer_rest goes_on o.0 o.1 rest) (operand_is_only env q l J j base _ before (is_given p) es)
      ∙ ap (λ (o : OperandsAndErrors). (with_operand (part_with succeeded c x) o.0, o.1)) (others.only (es ++ before) r added h)
      ∙ rw append_assoc refl

  more_only : (es : List Finding) (r : Operands) (added : List Finding) → OperandsAnswer More r added → whole es ≡ (r, es ++ added)
  more_only es r added (are_given (also_given {es = before} {es' = after} p h)) = given_only es before after _ _ _ _ p (are_given h)
  more_only es r added (one_is_cut (broken_later {es = before} {es' = after} p b)) = given_only es before after _ _ _ _ p (one_is_cut b)
  more_only es r added (one_is_cut (broken_here {es = before} {es' = after} h k)) =
      ap (λ (o : PartAndErrors). infer_rest goes_on o.0 o.1 rest) (operand_is_only env q l J j base None before (is_cut h) es)
      ∙ left_only goes_on (es ++ before) after k
      ∙ rw append_assoc refl

  more_good : (b : Bool) (xs : List TypedTree) (es : List Finding) → More.give b xs es → b ≡ true → More.derive xs × (es ≡ [])
  more_good b xs es (also_given {succeeded = true} {later = true} {c = c} {x = x} {xs = ys} {es = before} {es' = after} p h) k =
      let g = good env q l J c x before base.marks p in
      let r = others.good true ys after h refl in
      (also_derived g.derived g.passes r.0, (λ i. g.silent i ++ r.1 i))
  more_good b xs es (also_given {succeeded = false} {later = true} p h) k = cc
  more_good b xs es (also_given {succeeded = s} {later = false} p h) k = cc

  more_back : (xs : List TypedTree) → More.derive xs → More.give true xs []
  more_back xs (also_derived {t = t} {c = c} {x = x} {xs = ys} d p ds) =
      also_given (derived_is_good env q l J j base t c x d p) (others.derived ys ds)

  pub more_agree : AllAgree whole More
  more_agree = record { found = more_found; only = more_only; good = more_good; derived = more_back }

-- ---- a form

module _ (f : Form) (node_mark : (k : Mark) (xs : List TypedTree) → mark_of (f.node k xs) ≡ k) (j : List Finding → OperandsAndErrors)
    (Js : Judgments) (base : AllAgree j Js) where
  abbrev Whole : Judgment
  Whole = eager_rules f Js

  whole_given : (succeeded : Bool) (xs : List TypedTree) (added : List Finding) (t : Ty) (c : Caps) → Js.give succeeded xs added
      → f.decides (types_found xs) ≡ gives t c
      → Answers Whole (answer_if succeeded (f.node (typed (type_given f succeeded t) f.at) xs) c) added
  whole_given true xs added t c h e =
      let g = base.good true xs added h refl in
      let P : List Finding → Type 0 = λ l. Answers Whole (success (f.node (typed t f.at) xs) c) l in
      subst P (sym g.1) (a_derived (eager_typed g.0 e))
  whole_given false xs added t c h e = a_recovered (operand_failed h e)

  by_decision : (succeeded : Bool) (xs : List TypedTree) (es added : List Finding) → Js.give succeeded xs added → (d : Decision)
      → f.decides (types_found xs) ≡ d → Found Whole (infer_decided f succeeded xs (es ++ added) d) es
  by_decision succeeded xs es added h (gives t c) e =
      record { answer = _; added = added; is = refl; rules = whole_given succeeded xs added t c h e }
  by_decision succeeded xs es added h (refuses t fs) e =
      record {
        answer = failure (f.node (typed_as t f.at) xs);
        added = added ++ fs;
        is = rw append_assoc refl;
        rules =
            a_recovered (table_refused h e);
      }

  by_operands : (es : List Finding) (r : Operands) (added : List Finding) → OperandsAnswer Js r added
      → Found Whole (infer_form f r (es ++ added)) es
  by_operands es r added (are_given {succeeded = succeeded} {xs = xs} h) =
      by_decision succeeded xs es added h (f.decides (types_found xs)) refl
  by_operands es r added (one_is_cut {xs = xs} b) =
      record { answer = limit; added = added ++ f.at_limit (types_found xs); is = rw append_assoc refl; rules = a_cut (operand_cut b) }

  form_found : (es : List Finding) → Found Whole (infer_eager f j es) es
  form_found es =
      let r = base.found es in
      let P : OperandsAndErrors → Type 0 = λ o. Found Whole (infer_form f o.0 o.1) es in
      subst P (sym r.is) (by_operands es r.results r.added r.rules)

  by_results : (es : List Finding) (r : Operands) (added : List Finding) → OperandsAnswer Js r added
      → infer_eager f j es ≡ infer_form f r (es ++ added)
  by_results es r added h = ap (λ (o : OperandsAndErrors). infer_form f o.0 o.1) (base.only es r added h)

  derived_only : (es : List Finding) (t : Ty) (c : Caps) (e : TypedTree) → Whole.derives t c e
      → infer_eager f j es ≡ (success e c, es ++ [])
  derived_only es t c e (eager_typed {xs = xs} ds h) =
      by_results es _ [] (are_given (base.derived xs ds)) ∙ ap (infer_decided f true xs (es ++ [])) h

  recovered_only : (es : List Finding) (e : TypedTree) (added : List Finding) → Whole.recovers e added
      → infer_eager f j es ≡ (failure e, es ++ added)
  recovered_only es e added (operand_failed {xs = xs} h k) =
      by_results es _ added (are_given h) ∙ ap (infer_decided f false xs (es ++ added)) k
  recovered_only es e added (table_refused {succeeded = succeeded} {xs = xs} {es = before} h k) =
      by_results es _ before (are_given h) ∙ ap (infer_decided f succeeded xs (es ++ before)) k ∙ rw append_assoc refl

  form_only : (es : List Finding) (a : Answer) (added : List Finding) → Answers Whole a added → infer_eager f j es ≡ (a, es ++ added)
  form_only es a added (a_derived h) = derived_only es _ _ _ h
  form_only es a added (a_recovered h) = recovered_only es _ added h
  form_only es a added (a_cut (operand_cut {es = before} b)) = by_results es _ before (one_is_cut b) ∙ rw append_assoc refl

  form_marks : Marks Whole.derives
  form_marks t c e (eager_typed {xs = xs} ds h) = ap (λ (k : Mark). k.ty) (node_mark (typed t f.at) xs)

  pub form_agrees : Agrees (infer_eager f j) Whole
  form_agrees = record { found = form_found; only = form_only; marks = form_marks }

-- a form with one operand
pub one_operand_agrees : (env : TypeEnv) (f : Form) → ((k : Mark) (xs : List TypedTree) → mark_of (f.node k xs) ≡ k) → (l : Option Loc)
    (J : Judgment) (j : List Finding → AnswerAndErrors) → Agrees j J → Agrees (infer_one_operand env f l j) (one_operand_rules env f l J)
one_operand_agrees env f node_mark l J j base =
    form_agrees f node_mark _ _ (more_agree env f.goes_on (first_expectation f.expects) l J j base infer_none no_operands none_agrees)

-- a form with two operands
pub two_operands_agree : (env : TypeEnv) (f : Form) → ((k : Mark) (xs : List TypedTree) → mark_of (f.node k xs) ≡ k) → (l l' : Option Loc)
    (J J' : Judgment) (j j' : List Finding → AnswerAndErrors) → Agrees j J → Agrees j' J'
    → Agrees (infer_two_operands env f l l' j j') (two_operand_rules env f l l' J J')
two_operands_agree env f node_mark l l' J J' j j' base base' =
    let right = more_agree env f.goes_on (first_expectation (later_expectations f.expects))
    l' J' j' base' infer_none no_operands none_agrees in
    form_agrees f node_mark _ _ (more_agree env f.goes_on (first_expectation f.expects) l J j base _ _ right)
