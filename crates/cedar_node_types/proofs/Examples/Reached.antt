-- The examples of nodes that evaluation reaches.
use Rattle.std.proofs.Common.{◌≡◌, true, false, refl, sym}
use Rattle.cedar_types.specs.Values.{VBool}
use Rattle.cedar_types.specs.Expressions.Tree.{and, or}
use Rattle.cedar_node_types.specs.Reached.{itself, in_test, in_then, in_else, left_of_and, right_of_and, left_of_or, right_of_or}
use Rattle.cedar_node_types.specs.Reached.{in_operand, in_left, in_right, base_of_get, base_of_has, base_of_chain, base_of_like}
use Rattle.cedar_node_types.specs.Reached.{base_of_is, in_arguments, in_elements, in_fields, in_first, in_later, in_first_field}
use Rattle.cedar_node_types.specs.Reached.{in_later_field}
use Rattle.cedar_typing.specs.Evaluation.World.{Gives}
use Rattle.cedar_typing.specs.Examples.Expressions.{true_lit, false_lit, one, three, set2, plus, missing}
use Rattle.cedar_node_types.specs.Examples.Reached.{IsReached, if_23, ReachedNodes, ReachedExamples}

reached : ReachedNodes
reached = record {
  root = itself;
  test = in_test itself;
  first_branch = in_then refl itself;
  other_branch = in_else refl itself;
  left_of_and = left_of_and itself;
  right_of_and = right_of_and refl itself;
  left_of_or = left_of_or itself;
  right_of_or = right_of_or refl itself;
  operand = in_operand itself;
  left_operand = in_left itself;
  deep_operand = in_right tt (in_right tt itself);
  of_get = base_of_get itself;
  of_has = base_of_has itself;
  of_chain = base_of_chain itself;
  of_like = base_of_like itself;
  of_is = base_of_is itself;
  argument = in_arguments (in_later tt (in_first itself));
  element = in_elements (in_later tt (in_first itself));
  first_field = in_fields (in_first_field itself);
  later_field = in_fields (in_later_field tt (in_first_field itself));
}

-- true is not false
apart : Gives (VBool true) ≡ Gives (VBool false) → ⊥
apart e = cc

branch : IsReached (if_23 true_lit) three → ⊥
branch (in_test r) = elim r [ ]
branch (in_then e r) = elim r [ ]
branch (in_else e r) = apart e

and_side : IsReached (and tt false_lit one) one → ⊥
and_side (left_of_and r) = elim r [ ]
and_side (right_of_and e r) = apart (sym e)

or_side : IsReached (or tt true_lit one) one → ⊥
or_side (left_of_or r) = elim r [ ]
or_side (right_of_or e r) = apart e

operand : IsReached (plus missing one) one → ⊥
operand (in_left (base_of_get r)) = elim r [ ]
operand (in_right v r) = v

element : IsReached (set2 missing one) one → ⊥
element (in_elements (in_first (base_of_get r))) = elim r [ ]
element (in_elements (in_later v r)) = v

pub reached_examples : ReachedExamples
reached_examples = record {
  reached = reached;
  unreached = record {
    other_branch = branch;
    right_of_and = and_side;
    right_of_or = or_side;
    right_operand = operand;
    element = element;
  };
}
