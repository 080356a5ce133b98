-- Capabilities that hold: of sets put together, and of an expression seen by its form.
use Rattle.std.proofs.Common.{◌≡◌, refl, sym, ap, subst}
use Rattle.cedar_types.specs.Lemmas.Comparisons.{and_left, and_right}
use Rattle.cedar_types.specs.Expressions.Tree.{Tree, lit, var, slot, unknown, if_then_else, and, or, unary, binary, call, get_attr}
use Rattle.cedar_types.specs.Expressions.Tree.{has_attr, ext_has_attr, like, is_type, set_of, record_of, Trees, no_trees, tree, Fields}
use Rattle.cedar_types.specs.Expressions.Tree.{no_fields, field, map_tree, map_trees, map_fields}
use Rattle.cedar_types.specs.Capability.{Cap}
use Rattle.cedar_types.proofs.Caps.{cap_to}
use Rattle.cedar_types.specs.Values.{VSet}
use Rattle.cedar_typing.specs.Capabilities.{Caps, no_caps, single, union, intersection}
use Rattle.cedar_typing.specs.Evaluation.Conformance.{Holds, AllHold}
use Rattle.cedar_typing.specs.Evaluation.Eval.{has_test, get, path_test, like_outcome, is_of, called, unary_outcome, binary_outcome, eval}
use Rattle.cedar_typing.specs.Evaluation.Eval.{eval_all, eval_fields}
use Rattle.cedar_typing.specs.Evaluation.Outcomes.{test_of, of_test, and_test, or_test, choose, on_value, then_test, on_values}
use Rattle.cedar_typing.specs.Evaluation.Outcomes.{more_outcomes, record_outcome, more_entry_outcomes}
use Rattle.cedar_typing.specs.Evaluation.World.{World, Gives, call_value}
use Rattle.cedar_typing.specs.TypedExpr.{Source, form_of}
use Rattle.cedar_typing.proofs.Basics.{or_cases}

-- ---- evaluation looks at the form alone

module _ (world : World) {D E : Type 0} (g : D → E) where
  mutual
    pub eval_mapped : (e : Tree D) → eval world (map_tree g e) ≡ eval world e
    eval_mapped (lit m x) = refl
    eval_mapped (var m x) = refl
    eval_mapped (slot m s) = refl
    eval_mapped (unknown m n) = refl
    eval_mapped (if_then_else m a b c) = λ i. choose (test_of (eval_mapped a i)) (eval_mapped b i) (eval_mapped c i)
    eval_mapped (and m a b) = λ i. of_test (and_test (test_of (eval_mapped a i)) (test_of (eval_mapped b i)))
    eval_mapped (or m a b) = λ i. of_test (or_test (test_of (eval_mapped a i)) (test_of (eval_mapped b i)))
    eval_mapped (unary m o a) = ap (unary_outcome o) (eval_mapped a)
    eval_mapped (binary m o a b) =
        λ i. on_value (eval_mapped a i)
        (λ x. on_value (eval_mapped b i) (binary_outcome world.store world.functions o x))
    eval_mapped (call m f ts) = ap (λ os. on_values os (λ vs. called (call_value world.functions.calls f vs))) (eval_all_mapped ts)
    eval_mapped (get_attr m a x) = ap (λ o. on_value o (get world.store x)) (eval_mapped a)
    eval_mapped (has_attr m a x) = ap (λ o. of_test (then_test o (has_test world.store x))) (eval_mapped a)
    eval_mapped (ext_has_attr m a x xs) = ap (λ o. of_test (then_test o (path_test world.store x xs))) (eval_mapped a)
    eval_mapped (like m a p) = ap (λ o. on_value o (like_outcome p)) (eval_mapped a)
    eval_mapped (is_type m a p) = ap (λ o. on_value o (is_of p)) (eval_mapped a)
    eval_mapped (set_of m ts) = ap (λ os. on_values os (λ vs. Gives (VSet vs))) (eval_all_mapped ts)
    eval_mapped (record_of m fs) = ap record_outcome (eval_fields_mapped fs)

    eval_all_mapped : (ts : Trees D) → eval_all world (map_trees g ts) ≡ eval_all world ts
    eval_all_mapped no_trees = refl
    eval_all_mapped (tree t ts) = λ i. more_outcomes (eval_mapped t i) (eval_all_mapped ts i)

    eval_fields_mapped : (fs : Fields D) → eval_fields world (map_fields g fs) ≡ eval_fields world fs
    eval_fields_mapped no_fields = refl
    eval_fields_mapped (field k t fs) = λ i. more_entry_outcomes k (eval_mapped t i) (eval_fields_mapped fs i)

pub eval_form : (world : World) (e : Source) → eval world (form_of e) ≡ eval world e
eval_form world e = eval_mapped world (λ _. tt) e

-- ---- sets put together

module _ (world : World) where
  pub hold_none : AllHold world no_caps
  hold_none q h = cc

  pub hold_just : (c : Cap) → Holds world c → AllHold world (single c)
  hold_just c k q h = subst (Holds world) (sym (cap_to q c h)) k

  pub hold_either : (f g : Caps) → AllHold world f → AllHold world g → AllHold world (union f g)
  hold_either f g h k q n = or_cases (f q) (g q) (Holds world q) (h q) (k q) n

  pub hold_left : (f g : Caps) → AllHold world f → AllHold world (intersection f g)
  hold_left f g h q n = h q (and_left (f q) (g q) n)

  pub hold_right : (f g : Caps) → AllHold world g → AllHold world (intersection f g)
  hold_right f g h q n = h q (and_right (f q) (g q) n)
