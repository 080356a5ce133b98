-- An expression is cut exactly if a part that is visited is too deep.
use Rattle.std.proofs.Common.{◌≡◌, ℕ, ◌+◌, ◌≤◌, ◌<◌, Bool, true, false, List, [], Option, None, refl}
use Rattle.cedar_types.specs.Expressions.Tree.{lit, var, slot, unknown, if_then_else, and, or, unary, binary, call, get_attr, has_attr}
use Rattle.cedar_types.specs.Expressions.Tree.{ext_has_attr, like, is_type, set_of, record_of, Trees, no_trees, tree, Fields, no_fields}
use Rattle.cedar_types.specs.Expressions.Tree.{field}
use Rattle.cedar_types.specs.Expressions.View.{Written}
use Rattle.cedar_types.specs.Errors.{Finding}
use Rattle.cedar_typing.specs.Capabilities.{Caps, union}
use Rattle.cedar_typing.specs.Eager.{Expectation, first_expectation, later_expectations}
use Rattle.cedar_typing.specs.Infer.{infer}
use Rattle.cedar_typing.specs.Infer.Eager.{infer_none}
use Rattle.cedar_typing.specs.Infer.Parts.{Part, any_part}
use Rattle.cedar_typing.specs.Judgments.{Cut, CutAt, the_cut, max_nesting, PartResult, Operand, too_deep, by_part}
use Rattle.cedar_typing.specs.Rules.Laws.{IsCut, IsVisited, itself, left_of_and, right_of_and, left_of_or, right_of_or, test_of_if}
use Rattle.cedar_typing.specs.Rules.Laws.{then_of_if, else_of_if, operand_of_unary, left_of_binary, right_of_binary, base_of_has}
use Rattle.cedar_typing.specs.Rules.Laws.{base_of_get, base_of_chain, operand_of_like, operand_of_is, argument_of_call, element_of_set}
use Rattle.cedar_typing.specs.Rules.Laws.{value_of_record, SomeIsVisited, in_first, in_later, SomeFieldIsVisited, in_first_field}
use Rattle.cedar_typing.specs.Rules.Laws.{in_later_field, CutIsByDepth}
use Rattle.cedar_typing.specs.Rules.{rules, rules_within, rules_all, rules_fields, Cuts}
use Rattle.cedar_typing.specs.Rules.Attributes.{has_form, get_form}
use Rattle.cedar_typing.specs.Rules.Binary.{binary_form}
use Rattle.cedar_typing.specs.Rules.Calls.{arguments, call_form}
use Rattle.cedar_typing.specs.Rules.Chains.{chain_form}
use Rattle.cedar_typing.specs.Rules.Conditional.{if_test_cut, if_true_cut, if_false_cut, if_then_cut, if_else_cut}
use Rattle.cedar_typing.specs.Rules.Eager.{no_operands, operand_cut}
use Rattle.cedar_typing.specs.Rules.ShortCircuit.{left_cut, right_cut}
use Rattle.cedar_typing.specs.Rules.Unary.{unary_form, like_form, is_form}
use Rattle.cedar_typing.specs.Setting.{Setting}
use Rattle.cedar_typing.specs.TypeTests.{bool_types, is_false, is_true, annotation_passes}
use Rattle.cedar_typing.specs.TypedExpr.{Source, TypedTree, annotation, place_of}
use Rattle.cedar_typing.proofs.Agreement.Eager.{none_agrees, more_agree}
use Rattle.cedar_typing.proofs.Agreement.Induction.{agrees, agrees_all, agrees_fields}
use Rattle.cedar_typing.proofs.Agreement.Parts.{is_given, is_cut, PartAnswer, PartFound, part_found, part_visited}
use Rattle.cedar_typing.proofs.Cuts.Operands.{IsBroken, one_is_cut, this_is_cut, later_is_cut, operand_deep, operands_deep, operand_breaks}
use Rattle.cedar_typing.proofs.TypeTests.{true_is_not_false, false_is_not_true}
pub mod Operands

abbrev Deep : Setting → Source → Caps → ℕ → Type 0
Deep s e prior d = (k : ℕ) × (max_nesting < k) × IsVisited s e prior d k

-- an expression that is cut is past the limit itself, or is cut by a part
below : (s : Setting) (e : Source) (prior : Caps) (d : ℕ) {C : Cut}
    → (d ≤ max_nesting → (es : List Finding) → C es → Deep s e prior d) → (es : List Finding)
    → CutAt d C es → Deep s e prior d
below s e prior d f es (too_deep h) = (d, h, itself)
below s e prior d f es (by_part h k) = f h es k

mutual
  deep_part : (s : Setting) (e : Source) (prior : Caps) (d : ℕ) → d ≤ max_nesting → (es : List Finding)
      → (rules_within s e prior d).cuts es → Deep s e prior d
  deep_part s (lit m x) prior d h es k = absurd k
  deep_part s (var m x) prior d h es k = absurd k
  deep_part s (slot m x) prior d h es k = absurd k
  deep_part s (unknown m n) prior d h es k = absurd k
  deep_part s (if_then_else m a b e) prior d h es (if_test_cut k) =
      let r = below s a prior (d + 1) (deep_part s a prior (d + 1)) _ k in (r.0, r.1, test_of_if h r.2)
  deep_part s (if_then_else m a b e) prior d h es (if_true_cut {c = c} o n k) =
      let r = below s b (union prior c) (d + 1) (deep_part s b (union prior c) (d + 1)) _ k in
      (r.0, r.1, then_of_if h o (true_is_not_false _ n) r.2)
  deep_part s (if_then_else m a b e) prior d h es (if_false_cut o n k) =
      let r = below s e prior (d + 1) (deep_part s e prior (d + 1)) _ k in
      (r.0, r.1, else_of_if h o (false_is_not_true _ n) r.2)
  deep_part s (if_then_else m a b e) prior d h es (if_then_cut {c = c} o n n' k t) =
      let r = below s b (union prior c) (d + 1) (deep_part s b (union prior c) (d + 1)) _ k in
      (r.0, r.1, then_of_if h o n' r.2)
  deep_part s (if_then_else m a b e) prior d h es (if_else_cut o n n' p k) =
      let r = below s e prior (d + 1) (deep_part s e prior (d + 1)) _ k in (r.0, r.1, else_of_if h o n r.2)
  deep_part s (and m a b) prior d h es (left_cut k) =
      let r = below s a prior (d + 1) (deep_part s a prior (d + 1)) _ k in (r.0, r.1, left_of_and h r.2)
  deep_part s (and m a b) prior d h es (right_cut {c = c} o n k) =
      let r = below s b (union prior c) (d + 1) (deep_part s b (union prior c) (d + 1)) _ k in
      (r.0, r.1, right_of_and h o n r.2)
  deep_part s (or m a b) prior d h es (left_cut k) =
      let r = below s a prior (d + 1) (deep_part s a prior (d + 1)) _ k in (r.0, r.1, left_of_or h r.2)
  deep_part s (or m a b) prior d h es (right_cut o n k) =
      let r = below s b prior (d + 1) (deep_part s b prior (d + 1)) _ k in (r.0, r.1, right_of_or h o n r.2)
  deep_part s (unary m o a) prior d h es k =
      operand_deep s.env (unary_form m o) (place_of a) _ (Deep s (unary m o a) prior d)
      (λ es k. let r = below s a prior (d + 1) (deep_part s a prior (d + 1)) es k in (r.0, r.1, operand_of_unary h r.2)) es k
  deep_part s (binary m o a b) prior d h es k =
      operands_deep s.env (binary_form s.env m prior a b o) (place_of a) (place_of b) (rules s a prior (d + 1))
      (rules s b prior (d + 1)) (Deep s (binary m o a b) prior d)
      (λ es k. let r = below s a prior (d + 1) (deep_part s a prior (d + 1)) es k in (r.0, r.1, left_of_binary h r.2))
      (λ p es k. let r = below s b prior (d + 1) (deep_part s b prior (d + 1)) es k in (r.0, r.1, right_of_binary h p r.2)) es k
  deep_part s (call m n ts) prior d h es (operand_cut {xs = xs} {es = fs} b) =
      let r = deep_all s false (call_form s.env s.functions m n (arguments ts)).expects ts prior (d + 1) xs fs b in
      (r.0, r.1, argument_of_call h r.2)
  deep_part s (get_attr m e x) prior d h es k =
      operand_deep s.env (get_form s.env m prior e x) (place_of e) _ (Deep s (get_attr m e x) prior d)
      (λ es k. let r = below s e prior (d + 1) (deep_part s e prior (d + 1)) es k in (r.0, r.1, base_of_get h r.2)) es k
  deep_part s (has_attr m e x) prior d h es k =
      operand_deep s.env (has_form s.env m prior e x) (place_of e) _ (Deep s (has_attr m e x) prior d)
      (λ es k. let r = below s e prior (d + 1) (deep_part s e prior (d + 1)) es k in (r.0, r.1, base_of_has h r.2)) es k
  deep_part s (ext_has_attr m a x xs) prior d h es k =
      operand_deep s.env (chain_form s.env m prior a x xs) (place_of a) _ (Deep s (ext_has_attr m a x xs) prior d)
      (λ es k. let r = below s a prior (d + 1) (deep_part s a prior (d + 1)) es k in (r.0, r.1, base_of_chain h r.2)) es k
  deep_part s (like m a p) prior d h es k =
      operand_deep s.env (like_form m p) (place_of a) _ (Deep s (like m a p) prior d)
      (λ es k. let r = below s a prior (d + 1) (deep_part s a prior (d + 1)) es k in (r.0, r.1, operand_of_like h r.2)) es k
  deep_part s (is_type m a n) prior d h es k =
      operand_deep s.env (is_form m n) (place_of a) _ (Deep s (is_type m a n) prior d)
      (λ es k. let r = below s a prior (d + 1) (deep_part s a prior (d + 1)) es k in (r.0, r.1, operand_of_is h r.2)) es k
  deep_part s (set_of m ts) prior d h es (operand_cut {xs = xs} {es = fs} b) =
      let r = deep_all s true [] ts prior (d + 1) xs fs b in (r.0, r.1, element_of_set h r.2)
  deep_part s (record_of m fs) prior d h es (operand_cut {xs = xs} {es = gs} b) =
      let r = deep_fields s fs prior (d + 1) xs gs b in (r.0, r.1, value_of_record h r.2)

  deep_all : (s : Setting) (goes_on : Bool) (qs : List Expectation) (ts : Trees Written) (prior : Caps) (d : ℕ)
      (xs : List TypedTree) (es : List Finding) → (rules_all s goes_on qs ts prior d).break xs es
      → (k : ℕ) × (max_nesting < k) × SomeIsVisited s goes_on ts prior d k
  deep_all s goes_on qs no_trees prior d xs es b = absurd b
  deep_all s goes_on qs (tree e ts) prior d xs es b =
      one_is_cut s.env goes_on (first_expectation qs) (place_of e) (rules s e prior d)
      (rules_all s goes_on (later_expectations qs) ts prior d)
      ((k : ℕ) × (max_nesting < k) × SomeIsVisited s goes_on (tree e ts) prior d k)
      (λ fs k. let r = below s e prior d (deep_part s e prior d) fs k in (r.0, r.1, in_first r.2))
      (λ p b. let r = deep_all s goes_on (later_expectations qs) ts prior d b.0 b.1 b.2 in (r.0, r.1, in_later p r.2)) xs es b

  deep_fields : (s : Setting) (fs : Fields Written) (prior : Caps) (d : ℕ) (xs : List TypedTree) (es : List Finding)
      → (rules_fields s fs prior d).break xs es → (k : ℕ) × (max_nesting < k) × SomeFieldIsVisited s fs prior d k
  deep_fields s no_fields prior d xs es b = absurd b
  deep_fields s (field x e fs) prior d xs es b =
      one_is_cut s.env false None (place_of e) (rules s e prior d) (rules_fields s fs prior d)
      ((k : ℕ) × (max_nesting < k) × SomeFieldIsVisited s (field x e fs) prior d k)
      (λ gs k. let r = below s e prior d (deep_part s e prior d) gs k in (r.0, r.1, in_first_field r.2))
      (λ p b. let r = deep_fields s fs prior d b.0 b.1 b.2 in (r.0, r.1, in_later_field p r.2)) xs es b

-- the result of an expression as a part, whether it is cut or not
comes_to : (s : Setting) (e : Source) (prior : Caps) (d : ℕ)
    → PartFound (PartResult (rules s e prior d)) (Cuts s e prior d) (any_part (infer s e prior d [])) []
comes_to s e prior d = part_found (rules s e prior d) (infer s e prior d []) [] ((agrees s e prior d).found [])

module _ (s : Setting) (m : Written) (a b e : Source) (prior : Caps) (d : ℕ) (n : d ≤ max_nesting) where
  abbrev Test : Bool → Caps → TypedTree → List Finding → Type 0
  Test = Operand s.env bool_types (place_of a) (rules s a prior (d + 1))

  -- the first branch of an `if` is cut
  then_cut : (succeeded : Bool) (c : Caps) (x : TypedTree) (es : List Finding) (y : Bool) → Test succeeded c x es
      → annotation_passes is_true (annotation x) ≡ y → annotation_passes is_false (annotation x) ≡ false
      → IsCut s b (union prior c) (d + 1) → IsCut s (if_then_else m a b e) prior d
  then_cut succeeded c x es true o q f k = (_, by_part n (if_true_cut o q k.1))
  then_cut succeeded c x es false o q f k =
      let r = comes_to s e prior (d + 1) in
      (_, by_part n (if_then_cut o q f k.1 (part_visited _ r.operand r.added r.rules)))

  -- the other branch of an `if` is cut if both are visited, whatever the result of the first
  else_cut_beside : (succeeded : Bool) (c : Caps) (x : TypedTree) (es es' es'' : List Finding) (g : Option Part)
      → Test succeeded c x es → annotation_passes is_true (annotation x) ≡ false
      → annotation_passes is_false (annotation x) ≡ false
      → PartAnswer (PartResult (rules s b (union prior c) (d + 1))) (Cuts s b (union prior c) (d + 1)) g es'
      → Cuts s e prior (d + 1) es'' → IsCut s (if_then_else m a b e) prior d
  else_cut_beside succeeded c x es es' es'' g o q f (is_given p) k = (_, by_part n (if_else_cut o q f p k))
  else_cut_beside succeeded c x es es' es'' g o q f (is_cut h) k = (_, by_part n (if_then_cut o q f h (the_cut k)))

  else_cut : (succeeded : Bool) (c : Caps) (x : TypedTree) (es : List Finding) (y : Bool) → Test succeeded c x es
      → annotation_passes is_true (annotation x) ≡ false → annotation_passes is_false (annotation x) ≡ y
      → IsCut s e prior (d + 1) → IsCut s (if_then_else m a b e) prior d
  else_cut succeeded c x es true o q f k = (_, by_part n (if_false_cut o f k.1))
  else_cut succeeded c x es false o q f k =
      let r = comes_to s b (union prior c) (d + 1) in
      else_cut_beside succeeded c x es r.added k.0 r.operand o q f r.rules k.1

mutual
  cut : (s : Setting) (e : Source) (prior : Caps) (d k : ℕ) → max_nesting < k → IsVisited s e prior d k → IsCut s e prior d
  cut s e prior d k h itself = ([], too_deep h)
  cut s (and m a b) prior d k h (left_of_and n l) = let r = cut s a prior (d + 1) k h l in (r.0, by_part n (left_cut r.1))
  cut s (and m a b) prior d k h (right_of_and {c = c} n o f l) =
      let r = cut s b (union prior c) (d + 1) k h l in (_, by_part n (right_cut o f r.1))
  cut s (or m a b) prior d k h (left_of_or n l) = let r = cut s a prior (d + 1) k h l in (r.0, by_part n (left_cut r.1))
  cut s (or m a b) prior d k h (right_of_or n o f l) = let r = cut s b prior (d + 1) k h l in (_, by_part n (right_cut o f r.1))
  cut s (unary m o a) prior d k h (operand_of_unary n l) =
      let r = cut s a prior (d + 1) k h l in let b = operand_breaks s.env (unary_form m o) (place_of a) _ r.0 r.1 in
      (b.0, by_part n b.1)
  cut s (binary m o a b) prior d k h (left_of_binary n l) =
      let f = binary_form s.env m prior a b o in
      let r = cut s a prior (d + 1) k h l in
      let right = more_agree s.env f.goes_on (first_expectation (later_expectations f.expects)) (place_of b)
      _ _ (agrees s b prior (d + 1)) _ _ none_agrees in
      let z = this_is_cut s.env f.goes_on (first_expectation f.expects) (place_of a) (rules s a prior (d + 1)) _ _ right r.0 r.1 in
      (_, by_part n (operand_cut z.2))
  cut s (binary m o a b) prior d k h (right_of_binary n p l) =
      let f = binary_form s.env m prior a b o in
      let r = cut s b prior (d + 1) k h l in
      let y = this_is_cut s.env f.goes_on (first_expectation (later_expectations f.expects)) (place_of b)
      (rules s b prior (d + 1)) no_operands infer_none none_agrees r.0 r.1 in
      let z = later_is_cut s.env f.goes_on (first_expectation f.expects) (place_of a) (rules s a prior (d + 1))
      _ _ (agrees s a prior (d + 1)) p y in
      (_, by_part n (operand_cut z.2))
  cut s (if_then_else m a b e) prior d k h (test_of_if n l) = let r = cut s a prior (d + 1) k h l in (r.0, by_part n (if_test_cut r.1))
  cut s (if_then_else m a b e) prior d k h (then_of_if {c = c} n o f l) =
      then_cut s m a b e prior d n _ c _ _ _ o refl f (cut s b (union prior c) (d + 1) k h l)
  cut s (if_then_else m a b e) prior d k h (else_of_if n o f l) =
      else_cut s m a b e prior d n _ _ _ _ _ o f refl (cut s e prior (d + 1) k h l)
  cut s (has_attr m e x) prior d k h (base_of_has n l) =
      let r = cut s e prior (d + 1) k h l in let b =
      operand_breaks s.env (has_form s.env m prior e x) (place_of e) _ r.0 r.1 in (b.0, by_part n b.1)
  cut s (get_attr m e x) prior d k h (base_of_get n l) =
      let r = cut s e prior (d + 1) k h l in let b =
      operand_breaks s.env (get_form s.env m prior e x) (place_of e) _ r.0 r.1 in (b.0, by_part n b.1)
  cut s (ext_has_attr m e x xs) prior d k h (base_of_chain n l) =
      let r = cut s e prior (d + 1) k h l in let b =
      operand_breaks s.env (chain_form s.env m prior e x xs) (place_of e) _ r.0 r.1 in (b.0, by_part n b.1)
  cut s (like m a p) prior d k h (operand_of_like n l) =
      let r = cut s a prior (d + 1) k h l in let b = operand_breaks s.env (like_form m p) (place_of a) _ r.0 r.1 in
      (b.0, by_part n b.1)
  cut s (is_type m a x) prior d k h (operand_of_is n l) =
      let r = cut s a prior (d + 1) k h l in let b = operand_breaks s.env (is_form m x) (place_of a) _ r.0 r.1 in
      (b.0, by_part n b.1)
  cut s (call m x ts) prior d k h (argument_of_call n l) =
      let b = cut_all s false (call_form s.env s.functions m x (arguments ts)).expects ts prior (d + 1) k h l in
      (_, by_part n (operand_cut b.2))
  cut s (set_of m ts) prior d k h (element_of_set n l) =
      let b = cut_all s true [] ts prior (d + 1) k h l in (_, by_part n (operand_cut b.2))
  cut s (record_of m fs) prior d k h (value_of_record n l) = let b = cut_fields s fs prior (d + 1) k h l in (_, by_part n (operand_cut b.2))

  cut_all : (s : Setting) (goes_on : Bool) (qs : List Expectation) (ts : Trees Written) (prior : Caps) (d k : ℕ)
      → max_nesting < k → SomeIsVisited s goes_on ts prior d k → IsBroken (rules_all s goes_on qs ts prior d)
  cut_all s goes_on qs no_trees prior d k h l = elim l [ ]
  cut_all s goes_on qs (tree e ts) prior d k h (in_first l) =
      let r = cut s e prior d k h l in this_is_cut s.env goes_on (first_expectation qs) (place_of e)
      (rules s e prior d) _ _ (agrees_all s goes_on (later_expectations qs) ts prior d) r.0 r.1
  cut_all s goes_on qs (tree e ts) prior d k h (in_later p l) =
      later_is_cut s.env goes_on (first_expectation qs) (place_of e) (rules s e prior d) _ _ (agrees s e prior d) p
      (cut_all s goes_on (later_expectations qs) ts prior d k h l)

  cut_fields : (s : Setting) (fs : Fields Written) (prior : Caps) (d k : ℕ) → max_nesting < k
      → SomeFieldIsVisited s fs prior d k → IsBroken (rules_fields s fs prior d)
  cut_fields s no_fields prior d k h l = elim l [ ]
  cut_fields s (field x e fs) prior d k h (in_first_field l) =
      let r = cut s e prior d k h l in
      this_is_cut s.env false None (place_of e) (rules s e prior d) _ _ (agrees_fields s fs prior d) r.0 r.1
  cut_fields s (field x e fs) prior d k h (in_later_field p l) =
      later_is_cut s.env false None (place_of e) (rules s e prior d) _ _ (agrees s e prior d) p
      (cut_fields s fs prior d k h l)

pub by_depth : CutIsByDepth
by_depth s e prior d = (λ c. below s e prior d (deep_part s e prior d) c.0 c.1, λ l. cut s e prior d l.0 l.1 l.2)
