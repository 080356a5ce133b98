-- The typed copy of the scope's first tests: tests of variables.
use Rattle.std.proofs.Common.{◌≡◌, ℕ, ◌+◌, Bool, true, false, ◌&&◌, List, [], ◌∷◌, ◌++◌, map, Option, Some, None, refl, ap, subst}
use Rattle.std.specs.Prelude.{nat_lt, if◌then◌else◌}
use Rattle.cedar_types.specs.declared.base.expressions.operators.BinaryOp.{BinaryOp}
use Rattle.cedar_types.specs.declared.base.expressions.operators.Var.{Var}
use Rattle.cedar_types.specs.declared.base.location.Loc.{Loc}
use Rattle.cedar_types.specs.declared.base.names.slots.SlotId.{SlotId}
use Rattle.cedar_types.specs.Errors.{Finding, unexpected_type}
use Rattle.cedar_types.specs.Expressions.Tree.{lit, var, slot, and, binary}
use Rattle.cedar_types.specs.Expressions.Tree.{entity, is_type, set_of, Trees}
use Rattle.cedar_types.specs.Expressions.View.{of_type, Written, trees_of}
use Rattle.cedar_types.specs.Names.{PlacedType, PlacedUid}
use Rattle.cedar_types.specs.Templates.{Reference, to_entity, to_slot, Scope, any, equal, within, typed as typed_scope, typed_within, ActionScope}
use Rattle.cedar_types.specs.Templates.{any_action, equal_action, within_actions, PlainTemplate, made, uid_at, reference_at, scope_at}
use Rattle.cedar_types.specs.Templates.{typed_at, equal_at, within_at, action_scope_at}
use Rattle.cedar_types.specs.Types.{Ty}
use Rattle.cedar_types.specs.Types.Order.{in_order}
use Rattle.cedar_typing.specs.Capabilities.{Caps, no_caps, union}
use Rattle.cedar_typing.specs.Eager.{Expectation, Decision, gives, refuses, Form, first_expectation, later_expectations, types_found}
use Rattle.cedar_typing.specs.Infer.{infer, infer_within, infer_all}
use Rattle.cedar_typing.specs.Infer.Eager.{Operands, all_typed, cut_after, OperandsAndErrors, infer_none, expect_operand, infer_rest, infer_decided}
use Rattle.cedar_typing.specs.Infer.Eager.{infer_form, with_operand}
use Rattle.cedar_typing.specs.Infer.Leaves.{infer_leaf}
use Rattle.cedar_typing.specs.Infer.Parts.{Answer, success, failure, limit, Part, AnswerAndErrors, PartAndErrors, answer_if, part_from}
use Rattle.cedar_typing.specs.Infer.Parts.{as_failed_untyped, expect_type, expect_part, expect, after_part, after}
use Rattle.cedar_typing.specs.Infer.ShortCircuit.{infer_sides, infer_right}
use Rattle.cedar_typing.specs.Judgments.{max_nesting}
use Rattle.cedar_typing.specs.PolicyCheck.{irrelevant, policy_check}
use Rattle.cedar_typing.specs.Representatives.{first_tests, are_leaves, is_reference, is_variable, tests_variables}
use Rattle.cedar_typing.specs.Rules.Binary.{binary_form}
use Rattle.cedar_typing.specs.Rules.Leaves.{slot_ty, type_of_literal, variable_type}
use Rattle.cedar_typing.specs.Rules.Sets.{set_form}
use Rattle.cedar_typing.specs.Rules.ShortCircuit.{conjunction}
use Rattle.cedar_typing.specs.Rules.Unary.{is_form}
use Rattle.cedar_typing.specs.Setting.{Setting}
use Rattle.cedar_typing.specs.TypeEnv.{TypeEnv, finding}
use Rattle.cedar_typing.specs.TypeTests.{accepts, bool_types, is_false, annotation_passes}
use Rattle.cedar_typing.specs.TypedExpr.{Source, TypedTree, Mark, with_mark, annotation, at_place, place_of}
use Rattle.cedar_typing.proofs.Representatives.Decide.{ends}

-- ---- properties of a copy, whatever its mark

abbrev AnswerIs : (TypedTree → Type 0) → Answer → Type 0
AnswerIs P (success x c) = P x
AnswerIs P (failure x) = P x
AnswerIs P limit = Unit {0}

abbrev PartIs : (TypedTree → Type 0) → Option Part → Type 0
PartIs P None = Unit {0}
PartIs P (Some p) = P p.tree

abbrev IsKept : (TypedTree → Type 0) → Type 0
IsKept P = (d : Mark) (x : TypedTree) → P x → P (with_mark d x)

module _ (P : TypedTree → Type 0) where
  part_is : (a : Answer) → AnswerIs P a → PartIs P (part_from a)
  part_is (success x c) h = h
  part_is (failure x) h = h
  part_is limit h = tt

  either_is : (b : Bool) (x : TypedTree) (c : Caps) → P x → AnswerIs P (answer_if b x c)
  either_is true x c h = h
  either_is false x c h = h

  leaf_is : (t : Option Ty) (m : Written) (node : Mark → TypedTree) → ((k : Mark) → P (node k)) → AnswerIs P (infer_leaf t m node)
  leaf_is None m node h = h _
  leaf_is (Some t) m node h = h _

  module _ (env : TypeEnv) (kept : IsKept P) where
    expected_type_is : (k : Option Loc) (ts : List Ty) (p : Part) (es : List Finding) (t : Option Ty) → P p.tree → PartIs P (expect_type env ts k p es t).0
    expected_type_is k ts p es None h = h
    expected_type_is k ts p es (Some t) h = go (accepts ts t)
      where
        go : (b : Bool) → PartIs P (let r : PartAndErrors = if b then (Some p, es) else (Some (as_failed_untyped p), es ++ finding env k (unexpected_type (in_order ts) t) ∷ []) in r.0)
        go true = h
        go false = kept _ p.tree h

    expected_part_is : (k : Option Loc) (ts : List Ty) (o : Option Part) (es : List Finding) → PartIs P o → PartIs P (expect_part env ts k o es).0
    expected_part_is k ts None es h = tt
    expected_part_is k ts (Some p) es h = expected_type_is k ts p es (annotation p.tree) h

    expected_is : (k : Option Loc) (ts : List Ty) (o : AnswerAndErrors) → AnswerIs P o.0 → PartIs P (expect env ts k o).0
    expected_is k ts o h = expected_part_is k ts (part_from o.0) o.1 (part_is o.0 h)

    operand_is : (q : Expectation) (k : Option Loc) (o : AnswerAndErrors) → AnswerIs P o.0 → PartIs P (expect_operand env q k o).0
    operand_is None k o h = part_is o.0 h
    operand_is (Some ts) k o h = expected_is k ts o h

-- ---- forms whose operands are typed first

abbrev OneIs : (TypedTree → Type 0) → Operands → Type 0
OneIs P (all_typed b []) = ⊥
OneIs P (all_typed b (x ∷ [])) = P x
OneIs P (all_typed b (x ∷ y ∷ xs)) = ⊥
OneIs P (cut_after xs) = Unit {0}

abbrev TwoAre : (TypedTree → Type 0) → (TypedTree → Type 0) → Operands → Type 0
TwoAre P Q (all_typed b []) = ⊥
TwoAre P Q (all_typed b (x ∷ [])) = ⊥
TwoAre P Q (all_typed b (x ∷ y ∷ [])) = P x × Q y
TwoAre P Q (all_typed b (x ∷ y ∷ z ∷ xs)) = ⊥
TwoAre P Q (cut_after xs) = Unit {0}

abbrev AllAre : (TypedTree → Type 0) → List TypedTree → Type 0
AllAre P [] = Unit {0}
AllAre P (x ∷ xs) = P x × AllAre P xs

abbrev EachIs : (TypedTree → Type 0) → Operands → Type 0
EachIs P (all_typed b xs) = AllAre P xs
EachIs P (cut_after xs) = Unit {0}

one_is : (P : TypedTree → Type 0) (goes_on : Bool) (o : Option Part) (es : List Finding) → PartIs P o → OneIs P (infer_rest goes_on o es infer_none).0
one_is P true None es h = tt
one_is P false None es h = tt
one_is P goes_on (Some p) es h = h

with_one : (P Q : TypedTree → Type 0) (p : Part) (o : Operands) → P p.tree → OneIs Q o → TwoAre P Q (with_operand p o)
with_one P Q p (all_typed b []) h k = absurd k
with_one P Q p (all_typed b (x ∷ [])) h k = (h, k)
with_one P Q p (all_typed b (x ∷ y ∷ xs)) h k = absurd k
with_one P Q p (cut_after xs) h k = tt

two_are : (P Q : TypedTree → Type 0) (goes_on : Bool) (o : Option Part) (es : List Finding) (rest : List Finding → OperandsAndErrors) → PartIs P o
    → ((es' : List Finding) → OneIs Q (rest es').0) → TwoAre P Q (infer_rest goes_on o es rest).0
two_are P Q true None es rest h k = tt
two_are P Q false None es rest h k = tt
two_are P Q goes_on (Some p) es rest h k = with_one P Q p (rest es).0 h (k es)

with_each : (P : TypedTree → Type 0) (p : Part) (o : Operands) → P p.tree → EachIs P o → EachIs P (with_operand p o)
with_each P p (all_typed b xs) h k = (h, k)
with_each P p (cut_after xs) h k = tt

each_is : (P : TypedTree → Type 0) (goes_on : Bool) (o : Option Part) (es : List Finding) (rest : List Finding → OperandsAndErrors) → PartIs P o
    → ((es' : List Finding) → EachIs P (rest es').0) → EachIs P (infer_rest goes_on o es rest).0
each_is P true None es rest h k = tt
each_is P false None es rest h k = tt
each_is P goes_on (Some p) es rest h k = with_each P p (rest es).0 h (k es)

module _ (R : TypedTree → Type 0) (f : Form) where
  decided_is : (b : Bool) (xs : List TypedTree) (es : List Finding) (d : Decision) → ((k : Mark) → R (f.node k xs)) → AnswerIs R (infer_decided f b xs es d).0
  decided_is b xs es (gives t c) h = either_is R b _ c (h _)
  decided_is b xs es (refuses t fs) h = h _

  of_one : (P : TypedTree → Type 0) (o : Operands) (es : List Finding) → OneIs P o → ((k : Mark) (x : TypedTree) → P x → R (f.node k (x ∷ [])))
      → AnswerIs R (infer_form f o es).0
  of_one P (all_typed b []) es h g = absurd h
  of_one P (all_typed b (x ∷ [])) es h g = decided_is b (x ∷ []) es (f.decides (types_found (x ∷ []))) (λ k. g k x h)
  of_one P (all_typed b (x ∷ y ∷ xs)) es h g = absurd h
  of_one P (cut_after xs) es h g = tt

  of_two : (P Q : TypedTree → Type 0) (o : Operands) (es : List Finding) → TwoAre P Q o
      → ((k : Mark) (x y : TypedTree) → P x → Q y → R (f.node k (x ∷ y ∷ []))) → AnswerIs R (infer_form f o es).0
  of_two P Q (all_typed b []) es h g = absurd h
  of_two P Q (all_typed b (x ∷ [])) es h g = absurd h
  of_two P Q (all_typed b (x ∷ y ∷ [])) es h g = decided_is b (x ∷ y ∷ []) es (f.decides (types_found (x ∷ y ∷ []))) (λ k. g k x y h.0 h.1)
  of_two P Q (all_typed b (x ∷ y ∷ z ∷ xs)) es h g = absurd h
  of_two P Q (cut_after xs) es h g = tt

  of_each : (P : TypedTree → Type 0) (o : Operands) (es : List Finding) → EachIs P o → ((k : Mark) (xs : List TypedTree) → AllAre P xs → R (f.node k xs))
      → AnswerIs R (infer_form f o es).0
  of_each P (all_typed b xs) es h g = decided_is b xs es (f.decides (types_found xs)) (λ k. g k xs h)
  of_each P (cut_after xs) es h g = tt

-- ---- the three kinds of copies

abbrev IsVariable : TypedTree → Type 0
IsVariable x = is_variable x ≡ true

abbrev IsLiteral : TypedTree → Type 0
IsLiteral (lit m k) = Unit {0}
IsLiteral x = ⊥

abbrev IsReference : TypedTree → Type 0
IsReference x = is_reference x ≡ true

abbrev TestsVariables : TypedTree → Type 0
TestsVariables x = tests_variables x ≡ true

variable_kept : IsKept IsVariable
variable_kept d (var m k) h = refl
variable_kept d x h = cc

literal_kept : IsKept IsLiteral
literal_kept d (lit m k) h = tt
literal_kept d x h = absurd h

reference_kept : IsKept IsReference
reference_kept d (lit m k) h = refl
reference_kept d (slot m k) h = refl
reference_kept d (set_of m ts) h = h
reference_kept d x h = cc

tests_kept : IsKept TestsVariables
tests_kept d (lit m k) h = refl
tests_kept d (is_type m a n) h = h
tests_kept d (binary m BinaryOp.Eq a b) h = h
tests_kept d (binary m BinaryOp.In a b) h = h
tests_kept d (and m a b) h = h
tests_kept d x h = cc

leaves : (xs : List TypedTree) → AllAre IsLiteral xs → are_leaves (trees_of xs) ≡ true
leaves [] h = refl
leaves (lit m k ∷ xs) h = leaves xs h.1
leaves (x ∷ xs) h = absurd h.0

-- ---- `&&`

module _ (env : TypeEnv) (m : Written) where
  sides_are : (a b : Part) (s t : Option Ty) → TestsVariables a.tree → TestsVariables b.tree → AnswerIs TestsVariables (infer_sides conjunction m a b s t)
  sides_are a b None t h k = λ i. h i && k i
  sides_are a b (Some s) None h k = λ i. h i && k i
  sides_are a b (Some s) (Some t) h k = either_is TestsVariables (a.succeeded && b.succeeded) _ _ (λ i. h i && k i)

  second_is : (a : Part) (o : Option Part) (es : List Finding) → TestsVariables a.tree → PartIs TestsVariables o
      → AnswerIs TestsVariables (after_part o es (λ b es'. (infer_sides conjunction m a b (annotation a.tree) (annotation b.tree), es'))).0
  second_is a None es h k = tt
  second_is a (Some b) es h k = sides_are a b (annotation a.tree) (annotation b.tree) h k

  right_is : (l : Option Loc) (prior : Caps) (a : Part) (es : List Finding) (right : Caps → List Finding → AnswerAndErrors) → TestsVariables a.tree
      → ((known : Caps) (es' : List Finding) → AnswerIs TestsVariables (right known es').0)
      → AnswerIs TestsVariables (infer_right env conjunction m l prior a es right).0
  right_is l prior a es right h k = go (annotation_passes is_false (annotation a.tree))
    where
      go : (b : Bool) → AnswerIs TestsVariables (let r : AnswerAndErrors = if b then (answer_if a.succeeded (at_place m.place a.tree) no_caps, es)
          else after (expect env bool_types l (right (union prior a.capabilities) es)) (λ b es'. (infer_sides conjunction m a b (annotation a.tree) (annotation b.tree), es')) in r.0)
      go true = either_is TestsVariables a.succeeded _ _ (tests_kept _ a.tree h)
      go false =
          let o = expect env bool_types l (right (union prior a.capabilities) es) in
          second_is a o.0 o.1 h
          (expected_is TestsVariables env tests_kept l bool_types (right (union prior a.capabilities) es) (k (union prior a.capabilities) es))

  gone_on_is : (o : Option Part) (es : List Finding) (f : Part → List Finding → AnswerAndErrors) → PartIs TestsVariables o
      → ((p : Part) (es' : List Finding) → TestsVariables p.tree → AnswerIs TestsVariables (f p es').0)
      → AnswerIs TestsVariables (after_part o es f).0
  gone_on_is None es f h k = tt
  gone_on_is (Some p) es f h k = k p es h

  both_test : (l k : Option Loc) (prior : Caps) (o : AnswerAndErrors) (right : Caps → List Finding → AnswerAndErrors) → AnswerIs TestsVariables o.0
      → ((known : Caps) (es' : List Finding) → AnswerIs TestsVariables (right known es').0)
      → AnswerIs TestsVariables (after (expect env bool_types k o) (λ p es'. infer_right env conjunction m l prior p es' right)).0
  both_test l k prior o right h g =
      gone_on_is (expect env bool_types k o).0 (expect env bool_types k o).1 _ (expected_is TestsVariables env tests_kept k bool_types o h)
      (λ p es' q. right_is l prior p es' right q g)

-- ---- the tests

module _ (s : Setting) (l : Option Loc) where
  deep_is : (P : TypedTree → Type 0) (b : Bool) (es : List Finding) (o : AnswerAndErrors) → AnswerIs P o.0 → AnswerIs P (let r : AnswerAndErrors = if b then (limit, es) else o in r.0)
  deep_is P true es o h = tt
  deep_is P false es o h = h

  whole : (P : TypedTree → Type 0) (e : Source) (prior : Caps) (k : ℕ) → ((es : List Finding) → AnswerIs P (infer_within s e prior k es).0)
      → (es : List Finding) → AnswerIs P (infer s e prior k es).0
  whole P e prior k h es = deep_is P (nat_lt max_nesting k) es (infer_within s e prior k es) (h es)

  variable_is : (v : Var) (prior : Caps) (k : ℕ) (es : List Finding) → AnswerIs IsVariable (infer s (var (made l) v) prior k es).0
  variable_is v prior k =
      whole IsVariable (var (made l) v) prior k (λ es. leaf_is IsVariable (variable_type s.env v) (made l) (λ q. var q v) (λ q. refl))

  abbrev named : Reference → Source
  named r = reference_at l SlotId.Principal r

  reference_is : (r : Reference) (prior : Caps) (k : ℕ) (es : List Finding) → AnswerIs IsReference (infer s (named r) prior k es).0
  reference_is (to_entity u) prior k =
      whole IsReference (uid_at l u) prior k (λ es. leaf_is IsReference (type_of_literal s.env (entity u.uid)) _ (λ q. lit q (entity u.uid)) (λ q. refl))
  reference_is to_slot prior k =
      whole IsReference (slot (made l) SlotId.Principal) prior k
      (λ es. leaf_is IsReference (Some (slot_ty s.env.request_env SlotId.Principal)) (made l) (λ q. slot q SlotId.Principal) (λ q. refl))

  abbrev listed : List PlacedUid → Trees Written
  listed us = trees_of (map (uid_at l) us)

  elements : (us : List PlacedUid) (goes_on : Bool) (qs : List Expectation) (prior : Caps) (k : ℕ) (es : List Finding)
      → EachIs IsLiteral (infer_all s goes_on qs (listed us) prior k es).0
  elements [] goes_on qs prior k es = tt
  elements (u ∷ us) goes_on qs prior k es =
      let first : AnswerIs IsLiteral (infer s (uid_at l u) prior k es).0 =
      whole IsLiteral (uid_at l u) prior k
      (λ es'. leaf_is IsLiteral (type_of_literal s.env (entity u.uid)) _ (λ q. lit q (entity u.uid)) (λ q. tt)) es in
      each_is IsLiteral goes_on _ _ _ (operand_is IsLiteral s.env literal_kept (first_expectation qs) l (infer s (uid_at l u) prior k es) first)
      (elements us goes_on (later_expectations qs) prior k)

  set_is : (us : List PlacedUid) (prior : Caps) (k : ℕ) (es : List Finding) → AnswerIs IsReference (infer s (set_of (made l) (listed us)) prior k es).0
  set_is us prior k =
      let f = set_form s.env (made l) in
      whole IsReference (set_of (made l) (listed us)) prior k
      (λ es. of_each IsReference f IsLiteral _ _ (elements us f.goes_on f.expects prior (k + 1) es) (λ q xs h. leaves xs h))

  -- the test that compares a variable in a form
  compared : (o : BinaryOp) (v : Var) (b : Source) (prior : Caps) (k : ℕ)
      → ((q : Mark) (x y : TypedTree) → IsVariable x → IsReference y → TestsVariables ((binary_form s.env (made l) prior (var (made l) v) b o).node q (x ∷ y ∷ [])))
      → ((es : List Finding) → AnswerIs IsReference (infer s b prior (k + 1) es).0)
      → (es : List Finding) → AnswerIs TestsVariables (infer_within s (binary (made l) o (var (made l) v) b) prior k es).0
  compared o v b prior k node h es =
      let f = binary_form s.env (made l) prior (var (made l) v) b o in
      of_two TestsVariables f IsVariable IsReference _ _
      (two_are IsVariable IsReference f.goes_on _ _ _
      (operand_is IsVariable s.env variable_kept (first_expectation f.expects) l (infer s (var (made l) v) prior (k + 1) es) (variable_is v prior (k + 1) es))
      (λ es'. one_is IsReference f.goes_on _ _
      (operand_is IsReference s.env reference_kept (first_expectation (later_expectations f.expects)) (place_of b) (infer s b prior (k + 1) es') (h es'))))
      node

  is_equal : (v : Var) (b : Source) (prior : Caps) (k : ℕ) → ((es : List Finding) → AnswerIs IsReference (infer s b prior (k + 1) es).0)
      → (es : List Finding) → AnswerIs TestsVariables (infer_within s (equal_at l v b) prior k es).0
  is_equal v b prior k = compared BinaryOp.Eq v b prior k (λ q x y h g. λ i. h i && g i)

  is_in : (v : Var) (b : Source) (prior : Caps) (k : ℕ) → ((es : List Finding) → AnswerIs IsReference (infer s b prior (k + 1) es).0)
      → (es : List Finding) → AnswerIs TestsVariables (infer_within s (within_at l v b) prior k es).0
  is_in v b prior k = compared BinaryOp.In v b prior k (λ q x y h g. λ i. h i && g i)

  is_typed : (v : Var) (t : PlacedType) (prior : Caps) (k : ℕ) (es : List Finding) → AnswerIs TestsVariables (infer_within s (typed_at l v t) prior k es).0
  is_typed v t prior k es =
      let f = is_form (record { place = l; names = of_type t.place }) t.name in
      of_one TestsVariables f IsVariable _ _
      (one_is IsVariable f.goes_on _ _
      (operand_is IsVariable s.env variable_kept (first_expectation f.expects) l (infer s (var (made l) v) prior (k + 1) es) (variable_is v prior (k + 1) es)))
      (λ q x h. h)

  principal_is : (c : Scope) (prior : Caps) (k : ℕ) (es : List Finding)
      → AnswerIs TestsVariables (infer_within s (scope_at l Var.Principal SlotId.Principal c) prior k es).0
  principal_is any prior k es = refl
  principal_is (equal r) prior k es = is_equal Var.Principal (named r) prior k (reference_is r prior (k + 1)) es
  principal_is (within r) prior k es = is_in Var.Principal (named r) prior k (reference_is r prior (k + 1)) es
  principal_is (typed_scope t) prior k es = is_typed Var.Principal t prior k es
  principal_is (typed_within t r) prior k es =
      let a = typed_at l Var.Principal t in
      let b = within_at l Var.Principal (named r) in
      both_test s.env (made l) l l prior (infer s a prior (k + 1) es) (λ known es'. infer s b known (k + 1) es')
      (whole TestsVariables a prior (k + 1) (is_typed Var.Principal t prior (k + 1)) es)
      (λ known. whole TestsVariables b known (k + 1) (is_in Var.Principal (named r) known (k + 1) (reference_is r known ((k + 1) + 1))))

  action_is : (a : ActionScope) (prior : Caps) (k : ℕ) (es : List Finding) → AnswerIs TestsVariables (infer_within s (action_scope_at l a) prior k es).0
  action_is any_action prior k es = refl
  action_is (equal_action u) prior k es = is_equal Var.Action (uid_at l u) prior k (reference_is (to_entity u) prior (k + 1)) es
  action_is (within_actions us) prior k es = is_in Var.Action (set_of (made l) (listed us)) prior k (set_is us prior (k + 1)) es

tests_are : (s : Setting) (t : PlainTemplate) → AnswerIs TestsVariables (infer s (first_tests t) no_caps 1 []).0
tests_are s t =
    let a = scope_at t.place Var.Principal SlotId.Principal t.principal in
    let b = action_scope_at t.place t.action in
    both_test s.env (made t.place) (place_of b) (place_of a) no_caps (infer s a no_caps 2 []) (λ known es. infer s b known 2 es)
    (principal_is s t.place t.principal no_caps 2 []) (λ known es. action_is s t.place t.action known 2 es)

pub first_tests_test_variables : (s : Setting) (t : PlainTemplate) (es : List Finding) (x : TypedTree)
    → policy_check s (first_tests t) ≡ irrelevant es x → tests_variables x ≡ true
first_tests_test_variables s t es x h =
    let o = infer s (first_tests t) no_caps 1 [] in
    let part = ends (expect s.env bool_types t.place o) es x h in
    let of_part : TestsVariables part.part.tree =
    subst (PartIs TestsVariables) (ap (λ (r : PartAndErrors). r.0) part.is) (expected_is TestsVariables s.env tests_kept t.place bool_types o (tests_are s t)) in
    subst TestsVariables part.copy of_part
