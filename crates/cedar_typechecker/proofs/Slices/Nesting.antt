-- Each part that is visited stands no deeper than the whole is nested.
use Rattle.std.proofs.Common.{ℕ, suc, ◌+◌, ◌≤◌, Bool, true, false, arith}
use Rattle.std.proofs.Math.Nat.{le-max_left, le-max_right}
use Rattle.std.specs.Prelude.{max}
use Rattle.cedar_types.specs.Templates.{condition_of}
use Rattle.cedar_types.specs.Expressions.Tree.{lit, if_then_else, and, or, unary, binary, call, get_attr, has_attr}
use Rattle.cedar_types.specs.Expressions.Tree.{ext_has_attr, like, is_type, set_of, record_of, Trees, no_trees, tree, Fields, no_fields}
use Rattle.cedar_types.specs.Expressions.Tree.{field}
use Rattle.cedar_types.specs.Expressions.View.{Written}
use Rattle.cedar_typing.specs.Capabilities.{Caps, no_caps}
use Rattle.cedar_typing.specs.Soundness.Policies.{setting_on}
use Rattle.cedar_typing.specs.Rules.Laws.{IsVisited, itself, left_of_and, right_of_and, left_of_or, right_of_or, test_of_if, then_of_if}
use Rattle.cedar_typing.specs.Rules.Laws.{else_of_if, operand_of_unary, left_of_binary, right_of_binary, base_of_has, base_of_get}
use Rattle.cedar_typing.specs.Rules.Laws.{base_of_chain, operand_of_like, operand_of_is, argument_of_call, element_of_set, value_of_record}
use Rattle.cedar_typing.specs.Rules.Laws.{SomeIsVisited, in_first, in_later, SomeFieldIsVisited, in_first_field, in_later_field}
use Rattle.cedar_typing.specs.Setting.{Setting}
use Rattle.cedar_typing.specs.TypedExpr.{Source}
use Rattle.cedar_typing.proofs.Cuts.{by_depth}
use Rattle.cedar_typechecker.specs.Slices.Nesting.{nesting, nesting_of_all, nesting_of_values, ShallowIsCutNowhere}

-- the whole is a part
nested : (e : Source) → 1 ≤ nesting e
nested (lit m x) = omega arith
nested e = omega arith

-- a bound on the depth of one part, and of one of two, is one on the whole
deeper : (k d n : ℕ) → k + 1 ≤ d + 1 + n → k + 1 ≤ d + suc n
deeper k d n h = omega (arith, h)

in_left : (k d a b : ℕ) → k + 1 ≤ d + a → k + 1 ≤ d + max a b
in_left k d a b h = let l = le-max_left a b in omega (arith, h, l)

in_right : (k d a b : ℕ) → k + 1 ≤ d + b → k + 1 ≤ d + max a b
in_right k d a b h = let l = le-max_right a b in omega (arith, h, l)

module _ (s : Setting) where
  mutual
    visited : (e : Source) (prior : Caps) (d k : ℕ) → IsVisited s e prior d k → k + 1 ≤ d + nesting e
    visited e prior d k itself = let n = nested e in omega (arith, n)
    visited (and m a b) prior d k (left_of_and l h) =
        deeper k d _ (in_left k (d + 1) (nesting a) (nesting b) (visited a _ (d + 1) k h))
    visited (and m a b) prior d k (right_of_and l t n h) =
        deeper k d _ (in_right k (d + 1) (nesting a) (nesting b) (visited b _ (d + 1) k h))
    visited (or m a b) prior d k (left_of_or l h) =
        deeper k d _ (in_left k (d + 1) (nesting a) (nesting b) (visited a _ (d + 1) k h))
    visited (or m a b) prior d k (right_of_or l t n h) =
        deeper k d _ (in_right k (d + 1) (nesting a) (nesting b) (visited b _ (d + 1) k h))
    visited (if_then_else m a b c) prior d k (test_of_if l h) =
        deeper k d _ (in_left k (d + 1) (nesting a) (max (nesting b) (nesting c)) (visited a _ (d + 1) k h))
    visited (if_then_else m a b c) prior d k (then_of_if l t n h) =
        deeper k d _
        (in_right k (d + 1) (nesting a) (max (nesting b) (nesting c))
        (in_left k (d + 1) (nesting b) (nesting c) (visited b _ (d + 1) k h)))
    visited (if_then_else m a b c) prior d k (else_of_if l t n h) =
        deeper k d _
        (in_right k (d + 1) (nesting a) (max (nesting b) (nesting c))
        (in_right k (d + 1) (nesting b) (nesting c) (visited c _ (d + 1) k h)))
    visited (unary m o a) prior d k (operand_of_unary l h) = deeper k d _ (visited a _ (d + 1) k h)
    visited (binary m o a b) prior d k (left_of_binary l h) =
        deeper k d _ (in_left k (d + 1) (nesting a) (nesting b) (visited a _ (d + 1) k h))
    visited (binary m o a b) prior d k (right_of_binary l p h) =
        deeper k d _ (in_right k (d + 1) (nesting a) (nesting b) (visited b _ (d + 1) k h))
    visited (has_attr m a x) prior d k (base_of_has l h) = deeper k d _ (visited a _ (d + 1) k h)
    visited (get_attr m a x) prior d k (base_of_get l h) = deeper k d _ (visited a _ (d + 1) k h)
    visited (ext_has_attr m a x xs) prior d k (base_of_chain l h) = deeper k d _ (visited a _ (d + 1) k h)
    visited (like m a p) prior d k (operand_of_like l h) = deeper k d _ (visited a _ (d + 1) k h)
    visited (is_type m a p) prior d k (operand_of_is l h) = deeper k d _ (visited a _ (d + 1) k h)
    visited (call m f ts) prior d k (argument_of_call l h) = deeper k d _ (one_visited false ts _ (d + 1) k h)
    visited (set_of m ts) prior d k (element_of_set l h) = deeper k d _ (one_visited true ts _ (d + 1) k h)
    visited (record_of m fs) prior d k (value_of_record l h) = deeper k d _ (value_visited fs _ (d + 1) k h)

    one_visited : (goes_on : Bool) (ts : Trees Written) (prior : Caps) (d k : ℕ)
        → SomeIsVisited s goes_on ts prior d k → k + 1 ≤ d + nesting_of_all ts
    one_visited goes_on no_trees prior d k h = elim h [ ]
    one_visited goes_on (tree t ts) prior d k (in_first h) =
        in_left k d (nesting t) (nesting_of_all ts) (visited t _ d k h)
    one_visited goes_on (tree t ts) prior d k (in_later p h) =
        in_right k d (nesting t) (nesting_of_all ts) (one_visited goes_on ts _ d k h)

    value_visited : (fs : Fields Written) (prior : Caps) (d k : ℕ)
        → SomeFieldIsVisited s fs prior d k → k + 1 ≤ d + nesting_of_values fs
    value_visited no_fields prior d k h = elim h [ ]
    value_visited (field x t fs) prior d k (in_first_field h) =
        in_left k d (nesting t) (nesting_of_values fs) (visited t _ d k h)
    value_visited (field x t fs) prior d k (in_later_field p h) =
        in_right k d (nesting t) (nesting_of_values fs) (value_visited fs _ d k h)

pub shallow_is_cut_nowhere : ShallowIsCutNowhere
shallow_is_cut_nowhere b t h env one cut =
    let s = setting_on b t.id env in
    let deep = (by_depth s (condition_of t) no_caps 1).0 cut in
    let l = visited s (condition_of t) no_caps 1 deep.0 deep.2 in
    absurd (omega (arith, h, deep.1, l))
