-- Which nodes evaluation reaches: an example for each rule, and nodes that it does not reach.
use Rattle.std.specs.Prelude.{[], codes}
use Rattle.cedar_types.specs.declared.base.expressions.operators.UnaryOp.{UnaryOp}
use Rattle.cedar_types.specs.Expressions.Tree.{Shape, if_then_else, and, or, unary}
use Rattle.cedar_node_types.specs.Reached.{Reaches}
use Rattle.cedar_typing.specs.Examples.Expressions.{true_lit, false_lit, one, two, three, principal, text, dot, has, has2, set2, record2}
use Rattle.cedar_typing.specs.Examples.Expressions.{plus, call2, matching, is, missing}
use Rattle.cedar_typing.specs.Examples.Greeting.{greeting}
use Rattle.cedar_typing.specs.Examples.World.{user, sum}

-- evaluation of e reaches its node y, where alice greets bob
abbrev pub IsReached : Shape → Shape → Type 0
IsReached e y = Reaches greeting e y

-- `if a then 2 else 3`, `1 + (2 + a)`
abbrev pub if_23 : Shape → Shape
if_23 a = if_then_else tt a two three

abbrev pub sums : Shape → Shape
sums a = plus one (plus two a)

pub record ReachedNodes : Type 0 where
  pub root : IsReached one one
  -- the test of an `if`, and the branch that it chooses
  pub test : IsReached (if_23 true_lit) true_lit
  pub first_branch : IsReached (if_23 true_lit) two
  pub other_branch : IsReached (if_23 false_lit) three
  -- the sides of `&&` and of `||`
  pub left_of_and : IsReached (and tt false_lit one) false_lit
  pub right_of_and : IsReached (and tt true_lit one) one
  pub left_of_or : IsReached (or tt true_lit one) true_lit
  pub right_of_or : IsReached (or tt false_lit one) one
  -- operands, at any depth, also of an operator that fails
  pub operand : IsReached (unary tt UnaryOp.Not true_lit) true_lit
  pub left_operand : IsReached (sums three) one
  pub deep_operand : IsReached (sums true_lit) true_lit
  -- bases
  pub of_get : IsReached (dot principal (codes "age")) principal
  pub of_has : IsReached (has principal (codes "age")) principal
  pub of_chain : IsReached (has2 principal (codes "home") (codes "city")) principal
  pub of_like : IsReached (matching (text (codes "x")) []) (text (codes "x"))
  pub of_is : IsReached (is principal user) principal
  -- arguments, elements and fields
  pub argument : IsReached (call2 sum one two) two
  pub element : IsReached (set2 one two) two
  pub first_field : IsReached (record2 (codes "a") one (codes "b") two) one
  pub later_field : IsReached (record2 (codes "a") one (codes "b") two) two

-- the branch that the test does not choose, the side that does not count, and a part behind one that
-- fails
pub record UnreachedNodes : Type 0 where
  pub other_branch : IsReached (if_23 true_lit) three → ⊥
  pub right_of_and : IsReached (and tt false_lit one) one → ⊥
  pub right_of_or : IsReached (or tt true_lit one) one → ⊥
  pub right_operand : IsReached (plus missing one) one → ⊥
  pub element : IsReached (set2 missing one) one → ⊥

pub record ReachedExamples : Type 0 where
  pub reached : ReachedNodes
  pub unreached : UnreachedNodes
