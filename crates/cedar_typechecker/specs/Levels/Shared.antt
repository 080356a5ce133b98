-- Typed expressions in which both branches of an `if` are one tree if the test's type is True or
-- False. Typing makes them so, because it types only the branch that is taken.
use Rattle.std.specs.Prelude.{◌≡◌, Bool, true, false, Option, Some, None, if◌then◌else◌}
use Rattle.cedar_types.specs.declared.base.types.BoolType.TheVariants.{AnyBool, True, False}
use Rattle.cedar_types.specs.Expressions.Tree.{lit, var, slot, unknown, if_then_else, and, or, unary, binary, call, get_attr, has_attr}
use Rattle.cedar_types.specs.Expressions.Tree.{ext_has_attr, like, is_type, set_of, record_of, Trees, no_trees, tree, Fields, no_fields}
use Rattle.cedar_types.specs.Expressions.Tree.{field}
use Rattle.cedar_types.specs.Types.{Ty, TBool}
use Rattle.cedar_typing.specs.TypedExpr.{TypedTree, Mark, annotation}

-- the type of a test is True or False, so its result is known
abbrev pub is_constant_type : Ty → Bool
is_constant_type (TBool AnyBool) = false
is_constant_type (TBool True) = true
is_constant_type (TBool False) = true
is_constant_type t = false

abbrev pub is_constant : Option Ty → Bool
is_constant None = false
is_constant (Some t) = is_constant_type t

abbrev mutual
  -- each `if` in the expression whose test is True or False has one tree as both branches
  pub BranchesAreShared : TypedTree → Type 0
  BranchesAreShared (lit m x) = Unit {0}
  BranchesAreShared (var m x) = Unit {0}
  BranchesAreShared (slot m x) = Unit {0}
  BranchesAreShared (unknown m x) = Unit {0}
  BranchesAreShared (if_then_else m b c d) =
      (is_constant (annotation b) ≡ true → c ≡ d)
      × BranchesAreShared b × BranchesAreShared c × BranchesAreShared d
  BranchesAreShared (and m b c) = BranchesAreShared b × BranchesAreShared c
  BranchesAreShared (or m b c) = BranchesAreShared b × BranchesAreShared c
  BranchesAreShared (unary m o b) = BranchesAreShared b
  BranchesAreShared (binary m o b c) = BranchesAreShared b × BranchesAreShared c
  BranchesAreShared (call m n ts) = AllAreShared ts
  BranchesAreShared (get_attr m b x) = BranchesAreShared b
  BranchesAreShared (has_attr m b x) = BranchesAreShared b
  BranchesAreShared (ext_has_attr m b x xs) = BranchesAreShared b
  BranchesAreShared (like m b p) = BranchesAreShared b
  BranchesAreShared (is_type m b n) = BranchesAreShared b
  BranchesAreShared (set_of m ts) = AllAreShared ts
  BranchesAreShared (record_of m fs) = FieldsAreShared fs

  pub AllAreShared : Trees Mark → Type 0
  AllAreShared no_trees = Unit {0}
  AllAreShared (tree t ts) = BranchesAreShared t × AllAreShared ts

  pub FieldsAreShared : Fields Mark → Type 0
  FieldsAreShared no_fields = Unit {0}
  FieldsAreShared (field k t fs) = BranchesAreShared t × FieldsAreShared fs

-- both branches of an `if` whose test is True or False
abbrev pub constant_branches : TypedTree → Option (TypedTree × TypedTree)
constant_branches (if_then_else m b c d) = if is_constant (annotation b) then Some (c, d) else None
constant_branches x = None
