-- Operators on parts: each is right if its operands are.
use Rattle.std.proofs.Common.{◌≡◌, Bool, true, false, ◌&&◌, ◌||◌, List, Option, Some, None, if◌then◌else◌}
use Rattle.std.proofs.Common.{[], ◌∷◌, refl, sym, ap, subst, ◌∙◌}
use Rattle.std.specs.List.{list_any}
use Rattle.std.specs.Ordering.{int_eq}
use Rattle.std.specs.Prelude.{int_lt, int_le}
use Rattle.cedar_types.specs.declared.base.expressions.operators.BinaryOp.{BinaryOp}
use Rattle.cedar_types.specs.declared.base.expressions.operators.UnaryOp.{UnaryOp}
use Rattle.cedar_types.specs.declared.base.expressions.patterns.PatternElem.{PatternElem}
use Rattle.cedar_types.specs.Names.{Text, Path, Uid, path_eq, text_eq, uid_eq}
use Rattle.cedar_types.specs.Names.Comparisons.{bool_eq}
use Rattle.cedar_types.specs.Expressions.Tree.{entity, string, lit, set_of, Trees, no_trees, tree}
use Rattle.cedar_types.specs.Values.{Value, VBool, VString, VEntity, VSet, Values, no_values, more_values}
use Rattle.cedar_types.specs.Values.Stores.{Store, entity_at}
use Rattle.cedar_typing.specs.Evaluation.Equality.{same_value, all_values, any_value}
use Rattle.cedar_typing.specs.Evaluation.Eval.{binary_outcome, unary_outcome, has_ancestor, is_in, is_in_entity, is_some_entity, value_in}
use Rattle.cedar_typing.specs.Evaluation.Eval.{contains, is_of, like_outcome, matches, eval, eval_all}
use Rattle.cedar_typing.specs.Evaluation.Outcomes.{test_of, of_test, and_test, or_test, not_test, choose, on_value, GiveAll, more_outcomes, on_values}
use Rattle.cedar_typing.specs.Evaluation.World.{Interpretation, World, TypeFailure, Outcome, Gives, Fails}
use Rattle.cedar_typing.specs.TypedExpr.{Mark, TypedTree}
use Rattle.cedar_typing.proofs.Basics.{some_is, none_is}
use Rattle.cedar_where.specs.Compiled.{Kind, KBool, KLong, KText, KEntity, Term, term, same_kind, conjunction, disjunction, and_term}
use Rattle.cedar_where.specs.Compiled.{or_term, not_term, choice, if_term, unary_term, difference, equality, less, less_or_equal, in_term}
use Rattle.cedar_where.specs.Compiled.{plain_entity, entity_literal, and_others, literals, entity_literals, in_any_of, in_any, operator_term}
use Rattle.cedar_where.specs.Compiled.{plain_text, text_literal, text_literals, among, among_texts, contains_term}
use Rattle.cedar_where.specs.Compiled.{binary_of_terms, binary_term, like_term, is_plain_pattern, is_term}
use Rattle.cedar_where.specs.Routes.{is_plain}
use Rattle.cedar_where.specs.Sql.{Cell, Null, Truth, Data, Sql, sql_case, sql_equal, sql_matches, value, uid, not_cell, and_cells, or_cells, case_cell, equal_cells}
use Rattle.cedar_where.specs.Sql.{ordered_cells, not_null_cell, matches_cell, ids_cell, id_cell, is_within, is_id_within, is_id_within_any}
use Rattle.cedar_where.proofs.Parts.{Held, value_held, Answer, there, gone, outcome_of, cell_of, Agree, OnTerm, IsRight}
use Rattle.cedar_where.proofs.Parts.{if_plain, ap_both, from_one, from_two, from_three, not_null_held, null_beside_any, left_gone, right_gone}

-- ---- `&&` and `||`

abbrev and_outcome : Outcome → Outcome → Outcome
and_outcome o o' = of_test (and_test (test_of o) (test_of o'))

abbrev or_outcome : Outcome → Outcome → Outcome
or_outcome o o' = of_test (or_test (test_of o) (test_of o'))

and_total : (q : Bool) (x : Answer KBool true) (y : Answer KBool q)
    → Agree KBool q (and_outcome (outcome_of KBool true x) (outcome_of KBool q y))
    (and_cells (cell_of KBool true x) (cell_of KBool q y))
and_total q (there true) (there b) = (there b, refl, refl)
and_total q (there true) (gone f e) = (gone f e, refl, refl)
and_total q (there false) (there b) = (there false, refl, refl)
and_total q (there false) (gone f e) = (there false, refl, refl)
and_total q (gone f e) y = absurd (cc)

and_partial : (q : Bool) (x : Answer KBool false) (y : Answer KBool q)
    → Agree KBool false (and_outcome (outcome_of KBool false x) (outcome_of KBool q y))
    (case_cell (cell_of KBool false x) (cell_of KBool q y) (Truth false))
and_partial q (there true) (there b) = (there b, refl, refl)
and_partial q (there true) (gone f e) = (gone f refl, refl, refl)
and_partial q (there false) y = (there false, refl, refl)
and_partial q (gone f e) y = (gone f e, refl, refl)

or_total : (q : Bool) (x : Answer KBool true) (y : Answer KBool q)
    → Agree KBool q (or_outcome (outcome_of KBool true x) (outcome_of KBool q y))
    (or_cells (cell_of KBool true x) (cell_of KBool q y))
or_total q (there false) (there b) = (there b, refl, refl)
or_total q (there false) (gone f e) = (gone f e, refl, refl)
or_total q (there true) (there b) = (there true, refl, refl)
or_total q (there true) (gone f e) = (there true, refl, refl)
or_total q (gone f e) y = absurd (cc)

or_partial : (q : Bool) (x : Answer KBool false) (y : Answer KBool q)
    → Agree KBool false (or_outcome (outcome_of KBool false x) (outcome_of KBool q y))
    (case_cell (cell_of KBool false x) (Truth true) (cell_of KBool q y))
or_partial q (there false) (there b) = (there b, refl, refl)
or_partial q (there false) (gone f e) = (gone f refl, refl, refl)
or_partial q (there true) y = (there true, refl, refl)
or_partial q (gone f e) y = (gone f e, refl, refl)

module _ (d : Data) where
  conjunction_at : (e e' : Sql) (k l : Kind) (r q : Bool) (o o' : Outcome)
      → Agree k r o (value d e) → Agree l q o' (value d e')
      → OnTerm (IsRight d (and_outcome o o')) (conjunction (term e k r) (term e' l q))
  conjunction_at e e' KBool KBool true q o o' a b =
      from_two and_outcome and_cells KBool KBool KBool true q q (and_total q) o o' (value d e) (value d e') a b
  conjunction_at e e' KBool KBool false q o o' a b =
      from_two and_outcome (λ c c'. case_cell c c' (Truth false)) KBool KBool KBool false q false (and_partial q)
      o o' (value d e) (value d e') a b
  conjunction_at e e' k l r q o o' a b = tt

  disjunction_at : (e e' : Sql) (k l : Kind) (r q : Bool) (o o' : Outcome)
      → Agree k r o (value d e) → Agree l q o' (value d e')
      → OnTerm (IsRight d (or_outcome o o')) (disjunction (term e k r) (term e' l q))
  disjunction_at e e' KBool KBool true q o o' a b =
      from_two or_outcome or_cells KBool KBool KBool true q q (or_total q) o o' (value d e) (value d e') a b
  disjunction_at e e' KBool KBool false q o o' a b =
      from_two or_outcome (λ c c'. case_cell c (Truth true) c') KBool KBool KBool false q false (or_partial q)
      o o' (value d e) (value d e') a b
  disjunction_at e e' k l r q o o' a b = tt

  pub and_right : (x y : Option Term) (o o' : Outcome) → OnTerm (IsRight d o) x → OnTerm (IsRight d o') y
      → OnTerm (IsRight d (and_outcome o o')) (and_term x y)
  and_right (Some a) (Some b) o o' h k =
      conjunction_at a.sql b.sql a.kind b.kind a.is_total b.is_total o o' h k
  and_right (Some a) None o o' h k = tt
  and_right None y o o' h k = tt

  pub or_right : (x y : Option Term) (o o' : Outcome) → OnTerm (IsRight d o) x → OnTerm (IsRight d o') y
      → OnTerm (IsRight d (or_outcome o o')) (or_term x y)
  or_right (Some a) (Some b) o o' h k =
      disjunction_at a.sql b.sql a.kind b.kind a.is_total b.is_total o o' h k
  or_right (Some a) None o o' h k = tt
  or_right None y o o' h k = tt

-- ---- `if`

abbrev if_outcome : Outcome → Outcome → Outcome → Outcome
if_outcome o o' o'' = choose (test_of o) o' o''

-- an answer of a part, for a whole that is total only if the part is
of_part : (k : Kind) (q s : Bool) → (q ≡ false → s ≡ false) → (y : Answer k q) → Agree k s (outcome_of k q y) (cell_of k q y)
of_part k q s h (there v) = (there v, refl, refl)
of_part k q s h (gone f e) = (gone f (h e), refl, refl)

if_answer : (k : Kind) (r q p : Bool) (x : Answer KBool r) (y : Answer k q) (z : Answer k p)
    → Agree k (r && (q && p)) (if_outcome (outcome_of KBool r x) (outcome_of k q y) (outcome_of k p z))
    (case_cell (cell_of KBool r x) (cell_of k q y) (cell_of k p z))
if_answer k r q p (there true) y z = of_part k q (r && (q && p)) (λ e. right_gone r (q && p) (left_gone q p e)) y
if_answer k r q p (there false) y z = of_part k p (r && (q && p)) (λ e. right_gone r (q && p) (right_gone q p e)) z
if_answer k r q p (gone f e) y z = (gone f (left_gone r (q && p) e), refl, refl)

module _ (d : Data) where
  choice_of : (e e' e'' : Sql) (k : Kind) (r q p : Bool) (o o' o'' : Outcome) → Agree KBool r o (value d e)
      → Agree k q o' (value d e') → Agree k p o'' (value d e'')
      → IsRight d (if_outcome o o' o'') (term (sql_case e e' e'') k (r && (q && p)))
  choice_of e e' e'' k r q p o o' o'' a b c =
      from_three if_outcome case_cell KBool k k k r q p (r && (q && p)) (if_answer k r q p)
      o o' o'' (value d e) (value d e') (value d e'') a b c

  choice_at : (e e' e'' : Sql) (k l m : Kind) (r q p : Bool) (o o' o'' : Outcome) → Agree k r o (value d e)
      → Agree l q o' (value d e') → Agree m p o'' (value d e'')
      → OnTerm (IsRight d (if_outcome o o' o'')) (choice (term e k r) (term e' l q) (term e'' m p))
  choice_at e e' e'' KBool KBool KBool r q p o o' o'' a b c = choice_of e e' e'' KBool r q p o o' o'' a b c
  choice_at e e' e'' KBool KLong KLong r q p o o' o'' a b c = choice_of e e' e'' KLong r q p o o' o'' a b c
  choice_at e e' e'' KBool KText KText r q p o o' o'' a b c = choice_of e e' e'' KText r q p o o' o'' a b c
  choice_at e e' e'' k l m r q p o o' o'' a b c = tt

  pub if_right : (x y z : Option Term) (o o' o'' : Outcome) → OnTerm (IsRight d o) x → OnTerm (IsRight d o') y
      → OnTerm (IsRight d o'') z → OnTerm (IsRight d (if_outcome o o' o'')) (if_term x y z)
  if_right (Some t) (Some a) (Some b) o o' o'' h k l =
      choice_at t.sql a.sql b.sql t.kind a.kind b.kind t.is_total a.is_total b.is_total o o' o'' h k l
  if_right (Some t) (Some a) None o o' o'' h k l = tt
  if_right (Some t) None z o o' o'' h k l = tt
  if_right None y z o o' o'' h k l = tt

-- ---- `!`

abbrev not_outcome : Outcome → Outcome
not_outcome o = of_test (not_test (test_of o))

not_answer : (r : Bool) (x : Answer KBool r)
    → Agree KBool r (not_outcome (outcome_of KBool r x)) (not_cell (cell_of KBool r x))
not_answer r (there true) = (there false, refl, refl)
not_answer r (there false) = (there true, refl, refl)
not_answer r (gone f e) = (gone f e, refl, refl)

module _ (d : Data) where
  not_at : (e : Sql) (k : Kind) (r : Bool) (o : Outcome) → Agree k r o (value d e)
      → OnTerm (IsRight d (not_outcome o)) (not_term (Some (term e k r)))
  not_at e KBool r o a = from_one not_outcome not_cell KBool KBool r r (not_answer r) o (value d e) a
  not_at e k r o a = tt

  pub unary_right : (op : UnaryOp) (x : Option Term) (o : Outcome) → OnTerm (IsRight d o) x
      → OnTerm (IsRight d (unary_outcome op o)) (unary_term op x)
  unary_right UnaryOp.Not (Some a) o h = not_at a.sql a.kind a.is_total o h
  unary_right UnaryOp.Not None o h = tt
  unary_right op x o h = tt

-- ---- `==`

abbrev equal_outcome : Outcome → Outcome → Outcome
equal_outcome o o' = on_value o (λ v. on_value o' (λ w. Gives (VBool (same_value v w))))

-- values of one kind
equal_same : (k l : Kind) (r q : Bool) → same_kind k l ≡ true → (x : Answer k r) (y : Answer l q)
    → Agree KBool (r && q) (equal_outcome (outcome_of k r x) (outcome_of l q y))
    (equal_cells (cell_of k r x) (cell_of l q y))
equal_same k l r q s (gone f e) y = (gone f (left_gone r q e), refl, null_beside_any l q y)
equal_same KBool KBool r q s (there a) (there b) = (there (bool_eq a b), refl, refl)
equal_same KLong KLong r q s (there a) (there b) = (there (int_eq a b), refl, refl)
equal_same KText KText r q s (there a) (there b) = (there (text_eq a b), refl, refl)
equal_same (KEntity p) (KEntity p') r q s (there a) (there b) =
    (there (text_eq a b), ap (λ t. Gives (VBool (t && text_eq a b))) s, refl)
equal_same KBool l r q s (there a) (gone f e) = (gone f (right_gone r q e), refl, refl)
equal_same KLong l r q s (there a) (gone f e) = (gone f (right_gone r q e), refl, refl)
equal_same KText l r q s (there a) (gone f e) = (gone f (right_gone r q e), refl, refl)
equal_same (KEntity p) l r q s (there a) (gone f e) = (gone f (right_gone r q e), refl, refl)
equal_same k l r q s (there a) (there b) = cc

-- values of two kinds
differ : (k l : Kind) → same_kind k l ≡ false → (v : Held k) (w : Held l)
    → same_value (value_held k v) (value_held l w) ≡ false
differ KBool KBool s v w = cc
differ KBool l s v w = refl
differ KLong KLong s v w = cc
differ KLong l s v w = refl
differ KText KText s v w = cc
differ KText l s v w = refl
differ (KEntity p) (KEntity q) s v w = ap (λ t. t && text_eq v w) s
differ (KEntity p) l s v w = refl

abbrev both_there : Cell → Cell → Cell
both_there c c' = case_cell (and_cells (not_null_cell c) (not_null_cell c')) (Truth false) Null

difference_total : (k l : Kind) → same_kind k l ≡ false → (x : Answer k true) (y : Answer l true)
    → Agree KBool true (equal_outcome (outcome_of k true x) (outcome_of l true y)) (Truth false)
difference_total k l s (there v) (there w) =
    (there false, ap (λ b. Gives (VBool b)) (differ k l s v w), refl)
difference_total k l s (gone f e) y = absurd (cc)
difference_total k l s (there v) (gone f e) = absurd (cc)

difference_partial : (k l : Kind) (r q : Bool) → same_kind k l ≡ false → (x : Answer k r) (y : Answer l q)
    → Agree KBool false (equal_outcome (outcome_of k r x) (outcome_of l q y))
    (both_there (cell_of k r x) (cell_of l q y))
difference_partial k l r q s (there v) (there w) = (
  there false,
  ap (λ b. Gives (VBool b)) (differ k l s v w),
  λ i. case_cell (and_cells (not_null_held k v i) (not_null_held l w i)) (Truth false) Null,
)
difference_partial k l r q s (there v) (gone f e) =
    (gone f refl, refl, λ i. case_cell (and_cells (not_null_held k v i) (Truth false)) (Truth false) Null)
difference_partial k l r q s (gone f e) (there w) =
    (gone f refl, refl, λ i. case_cell (and_cells (Truth false) (not_null_held l w i)) (Truth false) Null)
difference_partial k l r q s (gone f e) (gone g n) = (gone f refl, refl, refl)

module _ (d : Data) where
  difference_at : (e e' : Sql) (k l : Kind) (r q : Bool) (o o' : Outcome) → same_kind k l ≡ false
      → Agree k r o (value d e) → Agree l q o' (value d e')
      → IsRight d (equal_outcome o o') (difference (term e k r) (term e' l q))
  difference_at e e' k l true true o o' s a b =
      from_two equal_outcome (λ c c'. Truth false) k l KBool true true true (difference_total k l s)
      o o' (value d e) (value d e') a b
  difference_at e e' k l true false o o' s a b =
      from_two equal_outcome both_there k l KBool true false false (difference_partial k l true false s)
      o o' (value d e) (value d e') a b
  difference_at e e' k l false q o o' s a b =
      from_two equal_outcome both_there k l KBool false q false (difference_partial k l false q s)
      o o' (value d e) (value d e') a b

  equality_at : (e e' : Sql) (k l : Kind) (r q : Bool) (o o' : Outcome) → Agree k r o (value d e)
      → Agree l q o' (value d e')
      → OnTerm (IsRight d (equal_outcome o o')) (equality (term e k r) (term e' l q))
  equality_at e e' k l r q o o' a b = by (same_kind k l) refl
    where
      by : (s : Bool) → same_kind k l ≡ s
          → OnTerm (IsRight d (equal_outcome o o')) (if s then Some (term (sql_equal e e') KBool (r && q))
          else Some (difference (term e k r) (term e' l q)))
      by true s =
          from_two equal_outcome equal_cells k l KBool r q (r && q) (equal_same k l r q s)
          o o' (value d e) (value d e') a b
      by false s = difference_at e e' k l r q o o' s a b

-- ---- `<` and `<=`

module _ (d : Data) (store : Store) (i : Interpretation) where
  abbrev binary_eval : BinaryOp → Outcome → Outcome → Outcome
  binary_eval op o o' = on_value o (λ v. on_value o' (binary_outcome store i op v))

  less_answer : (r q : Bool) (x : Answer KLong r) (y : Answer KLong q)
      → Agree KBool (r && q) (binary_eval BinaryOp.Less (outcome_of KLong r x) (outcome_of KLong q y))
      (ordered_cells int_lt (cell_of KLong r x) (cell_of KLong q y))
  less_answer r q (there m) (there n) = (there (int_lt m n), refl, refl)
  less_answer r q (there m) (gone f e) = (gone f (right_gone r q e), refl, refl)
  less_answer r q (gone f e) y = (gone f (left_gone r q e), refl, null_beside_any KLong q y)

  less_at : (e e' : Sql) (k l : Kind) (r q : Bool) (o o' : Outcome) → Agree k r o (value d e)
      → Agree l q o' (value d e')
      → OnTerm (IsRight d (binary_eval BinaryOp.Less o o')) (less (term e k r) (term e' l q))
  less_at e e' KLong KLong r q o o' a b =
      from_two (binary_eval BinaryOp.Less) (ordered_cells int_lt) KLong KLong KBool r q (r && q) (less_answer r q)
      o o' (value d e) (value d e') a b
  less_at e e' k l r q o o' a b = tt

  less_or_equal_answer : (r q : Bool) (x : Answer KLong r) (y : Answer KLong q)
      → Agree KBool (r && q) (binary_eval BinaryOp.LessEq (outcome_of KLong r x) (outcome_of KLong q y))
      (ordered_cells int_le (cell_of KLong r x) (cell_of KLong q y))
  less_or_equal_answer r q (there m) (there n) = (there (int_le m n), refl, refl)
  less_or_equal_answer r q (there m) (gone f e) = (gone f (right_gone r q e), refl, refl)
  less_or_equal_answer r q (gone f e) y = (gone f (left_gone r q e), refl, null_beside_any KLong q y)

  less_or_equal_at : (e e' : Sql) (k l : Kind) (r q : Bool) (o o' : Outcome) → Agree k r o (value d e)
      → Agree l q o' (value d e')
      → OnTerm (IsRight d (binary_eval BinaryOp.LessEq o o')) (less_or_equal (term e k r) (term e' l q))
  less_or_equal_at e e' KLong KLong r q o o' a b =
      from_two (binary_eval BinaryOp.LessEq) (ordered_cells int_le) KLong KLong KBool r q (r && q)
      (less_or_equal_answer r q) o o' (value d e) (value d e') a b
  less_or_equal_at e e' k l r q o o' a b = tt

  -- ---- `in`

  module _ (ancestors : (u v : Uid) → d.has_ancestor u v ≡ has_ancestor (entity_at store u) v) where
    within : (u v : Uid) → is_within d u v ≡ is_in store u v
    within u v = ap (λ b. uid_eq u v || b) (ancestors u v)

    in_answer : (p p' : Path) (r q : Bool) (x : Answer (KEntity p) r) (y : Answer (KEntity p') q)
        → Agree KBool (r && q)
        (binary_eval BinaryOp.In (outcome_of (KEntity p) r x) (outcome_of (KEntity p') q y))
        (ids_cell (is_id_within d p p') (cell_of (KEntity p) r x) (cell_of (KEntity p') q y))
    in_answer p p' r q (there s) (there t) =
        (there (is_in store (uid p s) (uid p' t)), refl, ap Truth (within (uid p s) (uid p' t)))
    in_answer p p' r q (there s) (gone f e) = (gone f (right_gone r q e), refl, refl)
    in_answer p p' r q (gone f e) y = (gone f (left_gone r q e), refl, null_beside_any (KEntity p') q y)

    in_at : (e e' : Sql) (k l : Kind) (r q : Bool) (o o' : Outcome) → Agree k r o (value d e)
        → Agree l q o' (value d e')
        → OnTerm (IsRight d (binary_eval BinaryOp.In o o')) (in_term (term e k r) (term e' l q))
    in_at e e' (KEntity p) (KEntity p') r q o o' a b =
        from_two (binary_eval BinaryOp.In) (ids_cell (is_id_within d p p')) (KEntity p) (KEntity p') KBool r q (r && q)
        (in_answer p p' r q) o o' (value d e) (value d e') a b
    in_at e e' k l r q o o' a b = tt

    operator_right : (op : BinaryOp) (a b : Term) (o o' : Outcome) → IsRight d o a → IsRight d o' b
        → OnTerm (IsRight d (binary_eval op o o')) (binary_of_terms op a b)
    operator_right BinaryOp.Eq a b o o' h k =
        equality_at d a.sql b.sql a.kind b.kind a.is_total b.is_total o o' h k
    operator_right BinaryOp.Less a b o o' h k =
        less_at a.sql b.sql a.kind b.kind a.is_total b.is_total o o' h k
    operator_right BinaryOp.LessEq a b o o' h k =
        less_or_equal_at a.sql b.sql a.kind b.kind a.is_total b.is_total o o' h k
    operator_right BinaryOp.In a b o o' h k =
        in_at a.sql b.sql a.kind b.kind a.is_total b.is_total o o' h k
    operator_right op a b o o' h k = tt

    binary_right : (op : BinaryOp) (x y : Option Term) (o o' : Outcome) → OnTerm (IsRight d o) x
        → OnTerm (IsRight d o') y → OnTerm (IsRight d (binary_eval op o o')) (binary_term op x y)
    binary_right op (Some a) (Some b) o o' h k = operator_right op a b o o' h k
    binary_right op (Some a) None o o' h k = tt
    binary_right op None y o o' h k = tt

-- ---- sets of literals

abbrev values_of : {A : Type 0} → (A → Value) → List A → Values
values_of f [] = no_values
values_of f (u ∷ us) = more_values (f u) (values_of f us)

-- a set of literals of a form has their values
literals_are : {A : Type 0} (world : World) (f : A → Value) (form : TypedTree → Option A)
    → ((e : TypedTree) (u : A) → form e ≡ Some u → eval world e ≡ Gives (f u))
    → (ts : Trees Mark) (us : List A) → literals form ts ≡ Some us → eval_all world ts ≡ GiveAll (values_of f us)
literals_are world f form is no_trees us h = ap (λ vs. GiveAll (values_of f vs)) (some_is h)
literals_are {A} world f form is (tree e ts) us h =
    by (literals_are world f form is ts) (form e) (literals form ts) refl refl h
  where
    by : ((vs : List A) → literals form ts ≡ Some vs → eval_all world ts ≡ GiveAll (values_of f vs))
        → (q : Option A) (r : Option (List A)) → form e ≡ q → literals form ts ≡ r
        → and_others q r ≡ Some us → eval_all world (tree e ts) ≡ GiveAll (values_of f us)
    by rest (Some u) (Some vs) g k l =
        ap_both more_outcomes (is e u g) (rest vs k) ∙ ap (λ ws. GiveAll (values_of f ws)) (some_is l)
    by rest (Some u) None g k l = absurd (none_is l)
    by rest None r g k l = absurd (none_is l)

-- ---- `in` a set of entities

abbrev entity_values : List Uid → Values
entity_values us = values_of VEntity us

all_entities : (us : List Uid) → all_values is_some_entity (entity_values us) ≡ true
all_entities [] = refl
all_entities (u ∷ us) = all_entities us

any_entity : (store : Store) (u : Uid) (us : List Uid)
    → any_value (is_in_entity store u) (entity_values us) ≡ list_any (is_in store u) us
any_entity store u [] = refl
any_entity store u (v ∷ vs) = ap (λ b. is_in store u v || b) (any_entity store u vs)

module _ (d : Data) (world : World) (ancestors : (u v : Uid) → d.has_ancestor u v ≡ has_ancestor (entity_at world.store u) v) where
  abbrev in_set : List Uid → Outcome → Outcome
  in_set us o = on_value o (λ v. value_in world.store v (VSet (entity_values us)))

  in_set_answer : (p : Path) (us : List Uid) (r : Bool) (x : Answer (KEntity p) r)
      → Agree KBool r (in_set us (outcome_of (KEntity p) r x))
      (id_cell (is_id_within_any d p us) (cell_of (KEntity p) r x))
  in_set_answer p us r (there s) = (
    there (list_any (is_in world.store (uid p s)) us),
    λ i. if all_entities us i then Gives (VBool (any_entity world.store (uid p s) us i)) else Fails TypeFailure,
    λ i. Truth (list_any (λ v. within d world.store world.functions ancestors (uid p s) v i) us),
  )
  in_set_answer p us r (gone f e) = (gone f e, refl, refl)

  in_set_at : (e : Sql) (k : Kind) (r : Bool) (us : List Uid) (o : Outcome) → Agree k r o (value d e)
      → OnTerm (IsRight d (in_set us o)) (in_any_of (term e k r) k us)
  in_set_at e (KEntity p) r us o a =
      from_one (in_set us) (id_cell (is_id_within_any d p us)) (KEntity p) KBool r r (in_set_answer p us r) o (value d e) a
  in_set_at e k r us o a = tt

  abbrev set_outcome : Trees Mark → Outcome
  set_outcome ts = on_values (eval_all world ts) (λ vs. Gives (VSet vs))

  abbrev in_outcome : Outcome → Outcome → Outcome
  in_outcome o o' = on_value o (λ v. on_value o' (value_in world.store v))

  plain_is : (v u : Uid) → plain_entity v ≡ Some u → v ≡ u
  plain_is v u h = by (is_plain v.eid) h
    where
      by : (b : Bool) → (if b then Some v else None) ≡ Some u → v ≡ u
      by true k = some_is k
      by false k = absurd (none_is k)

  literal_is : (e : TypedTree) (u : Uid) → entity_literal e ≡ Some u → eval world e ≡ Gives (VEntity u)
  literal_is (lit m (entity v)) u h = ap (λ w. Gives (VEntity w)) (plain_is v u h)
  literal_is e u h = absurd (none_is h)

  set_right : (ts : Trees Mark) (x : Option Term) (o : Outcome) → OnTerm (IsRight d o) x
      → OnTerm (IsRight d (in_outcome o (set_outcome ts))) (in_any x (entity_literals ts))
  set_right ts None o h = tt
  set_right ts (Some a) o h = by (entity_literals ts) refl
    where
      by : (r : Option (List Uid)) → entity_literals ts ≡ r
          → OnTerm (IsRight d (in_outcome o (set_outcome ts))) (in_any (Some a) r)
      by None e = tt
      by (Some us) e =
          subst (λ os. OnTerm (IsRight d (in_outcome o (on_values os (λ vs. Gives (VSet vs))))) (in_any_of a a.kind us))
          (sym (literals_are world VEntity entity_literal literal_is ts us e)) (in_set_at a.sql a.kind a.is_total us o h)

  -- ---- `contains` of a set of texts

  abbrev text_values : List Text → Values
  text_values us = values_of VString us

  any_text : (t : Text) (us : List Text) → any_value (same_value (VString t)) (text_values us) ≡ list_any (text_eq t) us
  any_text t [] = refl
  any_text t (u ∷ us) = ap (λ b. text_eq t u || b) (any_text t us)

  plain_text_is : (v u : Text) → plain_text v ≡ Some u → v ≡ u
  plain_text_is v u h = by (is_plain v) h
    where
      by : (b : Bool) → (if b then Some v else None) ≡ Some u → v ≡ u
      by true k = some_is k
      by false k = absurd (none_is k)

  text_is : (e : TypedTree) (u : Text) → text_literal e ≡ Some u → eval world e ≡ Gives (VString u)
  text_is (lit m (string v)) u h = ap (λ w. Gives (VString w)) (plain_text_is v u h)
  text_is e u h = absurd (none_is h)

  abbrev among_outcome : List Text → Outcome → Outcome
  among_outcome us o = on_value o (contains (VSet (text_values us)))

  among_answer : (us : List Text) (r : Bool) (x : Answer KText r)
      → Agree KBool r (among_outcome us (outcome_of KText r x)) (id_cell (λ s. list_any (text_eq s) us) (cell_of KText r x))
  among_answer us r (there t) = (there (list_any (text_eq t) us), ap (λ b. Gives (VBool b)) (any_text t us), refl)
  among_answer us r (gone f e) = (gone f e, refl, refl)

  among_at : (e : Sql) (k : Kind) (r : Bool) (us : List Text) (o : Outcome) → Agree k r o (value d e)
      → OnTerm (IsRight d (among_outcome us o)) (among (term e k r) us)
  among_at e KText r us o a =
      from_one (among_outcome us) (id_cell (λ s. list_any (text_eq s) us)) KText KBool r r (among_answer us r)
      o (value d e) a
  among_at e k r us o a = tt

  abbrev contains_outcome : Outcome → Outcome → Outcome
  contains_outcome o o' = on_value o (λ v. on_value o' (contains v))

  contains_right : (a : TypedTree) (y : Option Term) (o' : Outcome) → OnTerm (IsRight d o') y
      → OnTerm (IsRight d (contains_outcome (eval world a) o')) (contains_term a y)
  contains_right (set_of m ts) y o' k = by (text_literals ts) refl y k
    where
      by : (r : Option (List Text)) → text_literals ts ≡ r → (y : Option Term) → OnTerm (IsRight d o') y
          → OnTerm (IsRight d (contains_outcome (set_outcome ts) o')) (among_texts r y)
      by None e y k = tt
      by (Some us) e None k = tt
      by (Some us) e (Some a) k =
          subst (λ os. OnTerm (IsRight d (contains_outcome (on_values os (λ vs. Gives (VSet vs))) o')) (among a us))
          (sym (literals_are world VString text_literal text_is ts us e)) (among_at a.sql a.kind a.is_total us o' k)
  contains_right a y o' k = tt

  pub operands_right : (op : BinaryOp) (a b : TypedTree) (x y : Option Term) → OnTerm (IsRight d (eval world a)) x
      → OnTerm (IsRight d (eval world b)) y
      → OnTerm (IsRight d (on_value (eval world a) (λ v. on_value (eval world b) (binary_outcome world.store world.functions op v))))
      (operator_term op a b x y)
  operands_right BinaryOp.In a (set_of m ts) x y h k = set_right ts x (eval world a) h
  operands_right BinaryOp.In a b x y h k =
      binary_right d world.store world.functions ancestors BinaryOp.In x y (eval world a) (eval world b) h k
  operands_right BinaryOp.Contains a b x y h k = contains_right a y (eval world b) k
  operands_right op a b x y h k = binary_right d world.store world.functions ancestors op x y (eval world a) (eval world b) h k

-- ---- `like`

like_answer : (p : List PatternElem) (r : Bool) (x : Answer KText r)
    → Agree KBool r (on_value (outcome_of KText r x) (like_outcome p)) (matches_cell p (cell_of KText r x))
like_answer p r (there t) = (there (matches p t), refl, refl)
like_answer p r (gone f e) = (gone f e, refl, refl)

module _ (d : Data) where
  like_at : (e : Sql) (k : Kind) (r : Bool) (p : List PatternElem) (o : Outcome) → Agree k r o (value d e)
      → OnTerm (IsRight d (on_value o (like_outcome p))) (like_term (Some (term e k r)) p)
  like_at e KText r p o a =
      if_plain (IsRight d (on_value o (like_outcome p))) (is_plain_pattern p) (term (sql_matches e p) KBool r)
      (from_one (λ o. on_value o (like_outcome p)) (matches_cell p) KText KBool r r (like_answer p r) o (value d e) a)
  like_at e k r p o a = tt

  pub like_right : (x : Option Term) (p : List PatternElem) (o : Outcome) → OnTerm (IsRight d o) x
      → OnTerm (IsRight d (on_value o (like_outcome p))) (like_term x p)
  like_right (Some a) p o h = like_at a.sql a.kind a.is_total p o h
  like_right None p o h = tt

-- ---- `is`

abbrev test_cell : Bool → Cell → Cell
test_cell b c = case_cell (not_null_cell c) (Truth b) Null

type_total : (p q : Path) (x : Answer (KEntity p) true)
    → Agree KBool true (on_value (outcome_of (KEntity p) true x) (is_of q)) (Truth (path_eq p q))
type_total p q (there t) = (there (path_eq p q), refl, refl)
type_total p q (gone f e) = absurd (cc)

type_partial : (p q : Path) (x : Answer (KEntity p) false)
    → Agree KBool false (on_value (outcome_of (KEntity p) false x) (is_of q))
    (test_cell (path_eq p q) (cell_of (KEntity p) false x))
type_partial p q (there t) = (there (path_eq p q), refl, refl)
type_partial p q (gone f e) = (gone f refl, refl, refl)

module _ (d : Data) where
  is_at : (e : Sql) (k : Kind) (r : Bool) (q : Path) (o : Outcome) → Agree k r o (value d e)
      → OnTerm (IsRight d (on_value o (is_of q))) (is_term (Some (term e k r)) q)
  is_at e (KEntity p) true q o a =
      from_one (λ o. on_value o (is_of q)) (λ c. Truth (path_eq p q)) (KEntity p) KBool true true (type_total p q)
      o (value d e) a
  is_at e (KEntity p) false q o a =
      from_one (λ o. on_value o (is_of q)) (test_cell (path_eq p q)) (KEntity p) KBool false false (type_partial p q)
      o (value d e) a
  is_at e k r q o a = tt

  pub is_right : (x : Option Term) (q : Path) (o : Outcome) → OnTerm (IsRight d o) x
      → OnTerm (IsRight d (on_value o (is_of q))) (is_term x q)
  is_right (Some a) q o h = is_at a.sql a.kind a.is_total q o h
  is_right None q o h = tt
