-- The depth to which an expression is nested: a policy within the limit is cut nowhere.
use Rattle.std.specs.Prelude.{ℕ, suc, max, ◌≤◌}
use Rattle.cedar_types.specs.Templates.{PlainTemplate, condition_of}
use Rattle.cedar_types.specs.Expressions.Tree.{lit, var, slot, unknown, if_then_else, and, or, unary, binary, call, get_attr, has_attr}
use Rattle.cedar_types.specs.Expressions.Tree.{ext_has_attr, like, is_type, set_of, record_of, Trees, no_trees, tree, Fields, no_fields}
use Rattle.cedar_types.specs.Expressions.Tree.{field}
use Rattle.cedar_types.specs.Expressions.View.{Written}
use Rattle.cedar_typing.specs.Judgments.{max_nesting}
use Rattle.cedar_typing.specs.Soundness.Policies.{Basis}
use Rattle.cedar_typing.specs.TypedExpr.{Source}
use Rattle.cedar_typechecker.specs.Slices.Validation.{IsCutNowhere}

abbrev mutual
  -- the depth of the deepest part, where the whole has depth 1
  pub nesting : Source → ℕ
  nesting (lit m x) = 1
  nesting (var m x) = 1
  nesting (slot m x) = 1
  nesting (unknown m x) = 1
  nesting (if_then_else m a b c) = suc (max (nesting a) (max (nesting b) (nesting c)))
  nesting (and m a b) = suc (max (nesting a) (nesting b))
  nesting (or m a b) = suc (max (nesting a) (nesting b))
  nesting (unary m o a) = suc (nesting a)
  nesting (binary m o a b) = suc (max (nesting a) (nesting b))
  nesting (call m f ts) = suc (nesting_of_all ts)
  nesting (get_attr m a x) = suc (nesting a)
  nesting (has_attr m a x) = suc (nesting a)
  nesting (ext_has_attr m a x xs) = suc (nesting a)
  nesting (like m a p) = suc (nesting a)
  nesting (is_type m a p) = suc (nesting a)
  nesting (set_of m ts) = suc (nesting_of_all ts)
  nesting (record_of m fs) = suc (nesting_of_values fs)

  -- the greatest depth in several expressions
  pub nesting_of_all : Trees Written → ℕ
  nesting_of_all no_trees = 0
  nesting_of_all (tree t ts) = max (nesting t) (nesting_of_all ts)

  pub nesting_of_values : Fields Written → ℕ
  nesting_of_values no_fields = 0
  nesting_of_values (field k t fs) = max (nesting t) (nesting_of_values fs)

-- a policy whose condition is nested no deeper than the limit, its scope included, is cut nowhere,
-- by any schema in any mode
abbrev pub ShallowIsCutNowhere : Type 0
ShallowIsCutNowhere =
    (b : Basis) (t : PlainTemplate) → nesting (condition_of t) ≤ max_nesting → IsCutNowhere b t
