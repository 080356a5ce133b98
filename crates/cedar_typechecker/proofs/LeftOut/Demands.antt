-- Variables, and the expressions that the scope's tests compare with them, demand nothing.
use Rattle.std.proofs.Common.{◌≡◌, ℕ, true, List, refl}
use Rattle.cedar_types.specs.Expressions.Tree.{lit, var, slot, set_of, Trees, no_trees, tree}
use Rattle.cedar_typing.specs.Representatives.{are_leaves, is_reference, is_variable}
use Rattle.cedar_typing.specs.TypedExpr.{TypedTree, Mark}
use Rattle.cedar_typechecker.specs.Levels.Demands.{Demand, Surroundings, add_demands, add_all_demands}

-- a variable demands nothing, and neither does the expression with which it is compared
pub variable_demands : (s : Surroundings) (a : TypedTree) → is_variable a ≡ true → (h : ℕ) (ds : List Demand) → add_demands s a h ds ≡ ds
variable_demands s (var m k) e h ds = refl
variable_demands s a e h ds = cc

leaves_demand : (s : Surroundings) (ts : Trees Mark) → are_leaves ts ≡ true → (h : ℕ) (ds : List Demand) → add_all_demands s ts h ds ≡ ds
leaves_demand s no_trees e h ds = refl
leaves_demand s (tree (lit m k) ts) e h ds = leaves_demand s ts e h ds
leaves_demand s (tree a ts) e h ds = cc

pub reference_demands : (s : Surroundings) (a : TypedTree) → is_reference a ≡ true → (h : ℕ) (ds : List Demand) → add_demands s a h ds ≡ ds
reference_demands s (lit m k) e h ds = refl
reference_demands s (slot m k) e h ds = refl
reference_demands s (set_of m ts) e h ds = leaves_demand s ts e h ds
reference_demands s a e h ds = cc
