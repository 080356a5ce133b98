-- The typed copy of the scope's test of the action: an `in` of the scope, or no demand.
use Rattle.std.proofs.Common.{◌≡◌, Bool, true, false, true≢false, ◌&&◌, List, [], ◌∷◌, ◌++◌, map, Option, refl, sym, ◌∙◌, ap, subst}
use Rattle.cedar_types.specs.declared.base.expressions.operators.BinaryOp.{BinaryOp}
use Rattle.cedar_types.specs.declared.base.expressions.operators.Var.{Var}
use Rattle.cedar_types.specs.declared.base.location.Loc.{Loc}
use Rattle.cedar_types.specs.Errors.{Finding}
use Rattle.cedar_types.specs.Expressions.Tree.{var, binary, set_of}
use Rattle.cedar_types.specs.Expressions.View.{Written, trees_of}
use Rattle.cedar_types.specs.Lemmas.Comparisons.{and_left, and_right}
use Rattle.cedar_types.specs.Templates.{ActionScope, any_action, equal_action, within_actions, made, uid_at, action_scope_at}
use Rattle.cedar_typing.specs.Capabilities.{Caps}
use Rattle.cedar_typing.specs.Eager.{Decision, gives, refuses, Form, first_expectation, later_expectations, first_tree, second_tree, no_tree, types_found}
use Rattle.cedar_typing.specs.Infer.{infer}
use Rattle.cedar_typing.specs.Infer.Eager.{Operands, all_typed, cut_after, infer_none, infer_one_more, type_given, infer_decided, infer_form, infer_two_operands}
use Rattle.cedar_typing.specs.Infer.Parts.{Answer, success, failure, limit, AnswerAndErrors, answer_if}
use Rattle.cedar_typing.specs.PolicyCheck.Outcome.{Adds}
use Rattle.cedar_typing.specs.Representatives.{is_reference, is_variable, tests_variables}
use Rattle.cedar_typing.specs.Rules.Equality.{equality_form}
use Rattle.cedar_typing.specs.Rules.Membership.{in_form}
use Rattle.cedar_typing.specs.Setting.{Setting}
use Rattle.cedar_typing.specs.TypeEnv.{TypeEnv}
use Rattle.cedar_typing.specs.TypedExpr.{TypedTree, Mark, typed, typed_as}
use Rattle.cedar_typechecker.specs.LeftOut.{lists_actions}
use Rattle.cedar_typechecker.specs.Levels.Demands.{Demand, add_demands}
use Rattle.cedar_typechecker.proofs.LeftOut.Asked.{demand_at, asked, AddsIf, adds_none}
use Rattle.cedar_typechecker.proofs.LeftOut.Demands.{variable_demands, reference_demands}

-- ---- the root of a typed copy

abbrev copy_in : Answer → TypedTree
copy_in (success x c) = x
copy_in (failure x) = x
copy_in limit = no_tree

copy_of : (b : Bool) (x : TypedTree) (c : Caps) → copy_in (answer_if b x c) ≡ x
copy_of true x c = refl
copy_of false x c = refl

no_limit : (b : Bool) (x : TypedTree) (c : Caps) → limit ≡ answer_if b x c → ⊥
no_limit true x c e = cc
no_limit false x c e = cc

-- a binary form that stands at l
record IsBinary (l : Option Loc) (o : BinaryOp) (x : TypedTree) : Type 0 where
  mark : Mark
  left : TypedTree
  right : TypedTree
  is : x ≡ binary mark o left right
  place : mark.at.place ≡ l

module _ (l : Option Loc) (o : BinaryOp) (f : Form) (node : (k : Mark) (xs : List TypedTree) → f.node k xs ≡ binary k o (first_tree xs) (second_tree xs))
    (at : f.at ≡ made l) (x : TypedTree) (b : Bool) (c : Caps) (es' : List Finding) where
  rooted : (k : Mark) (xs : List TypedTree) → k.at ≡ f.at → f.node k xs ≡ x → IsBinary l o x
  rooted k xs e is = record {
    mark = k;
    left = first_tree xs;
    right = second_tree xs;
    is = sym is ∙ node k xs;
    place = ap (λ (w : Written). w.place) (e ∙ at);
  }

  decided : (s : Bool) (xs : List TypedTree) (es : List Finding) (d : Decision) → infer_decided f s xs es d ≡ (answer_if b x c, es') → IsBinary l o x
  decided s xs es (gives t c') e =
      let k = typed (type_given f s t) f.at in
      rooted k xs refl (sym (copy_of s (f.node k xs) c') ∙ ap (λ (r : AnswerAndErrors). copy_in r.0) e ∙ copy_of b x c)
  decided s xs es (refuses t fs) e = rooted (typed_as t f.at) xs refl (ap (λ (r : AnswerAndErrors). copy_in r.0) e ∙ copy_of b x c)

  root : (os : Operands) (es : List Finding) → infer_form f os es ≡ (answer_if b x c, es') → IsBinary l o x
  root (all_typed s xs) es e = decided s xs es (f.decides (types_found xs)) e
  root (cut_after xs) es e = absurd (no_limit b x c (ap (λ (r : AnswerAndErrors). r.0) e))

  two_roots : (env : TypeEnv) (k k' : Option Loc) (left right : List Finding → AnswerAndErrors) (es : List Finding)
      → infer_two_operands env f k k' left right es ≡ (answer_if b x c, es') → IsBinary l o x
  two_roots env k k' left right es e =
      let operands = infer_one_more env f.goes_on (first_expectation f.expects) k left
      (infer_one_more env f.goes_on (first_expectation (later_expectations f.expects)) k' right infer_none) es in
      root operands.0 operands.1 e

-- ---- its demands

module _ (l : Option Loc) where
  in_demands : (m : Mark) → m.at.place ≡ l → (a y : TypedTree) → is_variable a ≡ true → is_reference y ≡ true
      → AddsIf l true (binary m BinaryOp.In a y)
  in_demands m e (var k v) y h g s ds =
      let P : List Demand → Type 0 = λ es. Adds ds (asked l true) es in
      subst P (sym (reference_demands s y g 0 (ds ++ demand_at m.at.place ∷ [])))
      (subst (λ z. Adds ds (asked l true) (ds ++ demand_at z ∷ [])) (sym e) (λ k. (λ i. i, λ i. i)))
  in_demands m e a y h g s ds = absurd (true≢false (sym h))

  equal_demands : (m : Mark) (a y : TypedTree) → is_variable a ≡ true → is_reference y ≡ true → AddsIf l false (binary m BinaryOp.Eq a y)
  equal_demands m a y h g s ds =
      subst (λ es. Adds ds [] es) (sym (reference_demands s y g 0 (add_demands s a 0 ds) ∙ variable_demands s a h 0 ds)) (adds_none l ds)

  in_tree : (x : TypedTree) → tests_variables x ≡ true → IsBinary l BinaryOp.In x → AddsIf l true x
  in_tree x h r =
      let tests : (is_variable r.left && is_reference r.right) ≡ true = sym (ap tests_variables r.is) ∙ h in
      subst (AddsIf l true) (sym r.is)
      (in_demands r.mark r.place r.left r.right (and_left (is_variable r.left) _ tests) (and_right (is_variable r.left) _ tests))

  equal_tree : (x : TypedTree) → tests_variables x ≡ true → IsBinary l BinaryOp.Eq x → AddsIf l false x
  equal_tree x h r =
      let tests : (is_variable r.left && is_reference r.right) ≡ true = sym (ap tests_variables r.is) ∙ h in
      subst (AddsIf l false) (sym r.is)
      (equal_demands r.mark r.left r.right (and_left (is_variable r.left) _ tests) (and_right (is_variable r.left) _ tests))

-- ---- the test

pub action_adds : (s : Setting) (l : Option Loc) (a : ActionScope) (prior : Caps) (es es' : List Finding) (x : TypedTree) (b : Bool) (c : Caps)
    → infer s (action_scope_at l a) prior 2 es ≡ (answer_if b x c, es') → (a ≡ any_action → ⊥) → tests_variables x ≡ true
    → AddsIf l (lists_actions a) x
action_adds s l any_action prior es es' x b c e some h = absurd (some refl)
action_adds s l (equal_action u) prior es es' x b c e some h =
    let f = equality_form s.env (made l) (var (made l) Var.Action) (uid_at l u) in
    equal_tree l x h
    (two_roots l BinaryOp.Eq f (λ k xs. refl) refl x b c es' s.env l l
    (λ es''. infer s (var (made l) Var.Action) prior 3 es'') (λ es''. infer s (uid_at l u) prior 3 es'') es e)
action_adds s l (within_actions us) prior es es' x b c e some h =
    let set = set_of (made l) (trees_of (map (uid_at l) us)) in
    let f = in_form s.env (made l) (var (made l) Var.Action) set in
    in_tree l x h
    (two_roots l BinaryOp.In f (λ k xs. refl) refl x b c es' s.env l l
    (λ es''. infer s (var (made l) Var.Action) prior 3 es'') (λ es''. infer s set prior 3 es'') es e)
