-- The conclusions follow from the laws of the types at nodes.
use Rattle.std.proofs.Common.{[], refl, arith}
use Rattle.cedar_node_types.specs.Examples.NodeTypeConclusions.{SidesHaveTypes, LeftSidesFitTypes, ImpossibleHaveTypes}
use Rattle.cedar_node_types.specs.Examples.NodeTypeConclusions.{RefusedFitTypes, ErrorsFitTypes, NodeTypeConclusions}
use Rattle.cedar_node_types.specs.NodeTypes.{CopiesHaveTypes, PassingHaveTypes, CopiesFitTypes, ChecksFitTypes}
use Rattle.cedar_node_types.specs.Reached.{itself, left_of_and}
use Rattle.cedar_types.specs.Expressions.Tree.{and, var}
use Rattle.cedar_typing.specs.Eager.{no_tree}
use Rattle.cedar_typing.specs.PolicyCheck.{irrelevant}
use Rattle.cedar_node_types.proofs.NodeTypes.Laws.{copies_have_types, passing_have_types, copies_fit_types, checks_fit_types}

sides : CopiesHaveTypes → SidesHaveTypes
sides law s e prior d t c m m' m'' x y k =
    let h = law s e prior d t c (and m (var m' x) (var m'' y)) k in (h 2 no_tree (omega arith), h 1 no_tree (omega arith))

left_sides : CopiesFitTypes → LeftSidesFitTypes
left_sides law s world f w t r i e b prior d h = λ u c m x y k.
    (law s world f w t r i e b prior d h).derived u c (and m x y) k x (left_of_and itself)

impossible : PassingHaveTypes → ImpossibleHaveTypes
impossible law s ok e named x c = law s ok e named (irrelevant [] x) c refl

refused : CopiesFitTypes → RefusedFitTypes
refused law s world f w t r i e b prior d h = (law s world f w t r i e b prior d h).recovered

errors : ChecksFitTypes → ErrorsFitTypes
errors law s e es x f w t c r world i = law s e (irrelevant es x) f w t c r world i

pub node_type_conclusions : NodeTypeConclusions
node_type_conclusions = record {
  sides = sides copies_have_types;
  left_sides = left_sides copies_fit_types;
  impossible = impossible passing_have_types;
  refused = refused copies_fit_types;
  errors = errors checks_fit_types;
}
