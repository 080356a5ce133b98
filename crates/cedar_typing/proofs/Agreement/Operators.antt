-- The nodes of operators are the operators on the operands, marked as their forms say.
use Rattle.std.proofs.Common.{◌≡◌, List, refl, ap}
use Rattle.cedar_types.specs.declared.base.expressions.operators.BinaryOp.{BinaryOp}
use Rattle.cedar_types.specs.declared.base.expressions.operators.UnaryOp.{UnaryOp}
use Rattle.cedar_types.specs.Expressions.Tree.{unary, binary}
use Rattle.cedar_types.specs.Expressions.View.{Written}
use Rattle.cedar_typing.specs.Capabilities.{Caps}
use Rattle.cedar_typing.specs.Eager.{Form, first_tree, second_tree}
use Rattle.cedar_typing.specs.Rules.Binary.{binary_form}
use Rattle.cedar_typing.specs.Rules.Unary.{unary_form}
use Rattle.cedar_typing.specs.TypeEnv.{TypeEnv}
use Rattle.cedar_typing.specs.TypedExpr.{Source, TypedTree, Mark, mark_of}

-- the node of a form has the mark that it is given
abbrev pub IsMarked : Form → Type 0
IsMarked f = (k : Mark) (xs : List TypedTree) → mark_of (f.node k xs) ≡ k

-- the node of an operator's form is that operator on the operands
pub unary_node : (m : Written) (o : UnaryOp) (k : Mark) (xs : List TypedTree) → (unary_form m o).node k xs ≡ unary k o (first_tree xs)
unary_node m UnaryOp.Not k xs = refl
unary_node m o k xs = refl

pub binary_node : (env : TypeEnv) (m : Written) (prior : Caps) (a b : Source) (o : BinaryOp) (k : Mark) (xs : List TypedTree)
    → (binary_form env m prior a b o).node k xs ≡ binary k o (first_tree xs) (second_tree xs)
binary_node env m prior a b BinaryOp.Eq k xs = refl
binary_node env m prior a b o k xs = refl

pub unary_marked : (m : Written) (o : UnaryOp) → IsMarked (unary_form m o)
unary_marked m o k xs = ap mark_of (unary_node m o k xs)

pub binary_marked : (env : TypeEnv) (m : Written) (prior : Caps) (a b : Source) (o : BinaryOp) → IsMarked (binary_form env m prior a b o)
binary_marked env m prior a b o k xs = ap mark_of (binary_node env m prior a b o k xs)
