-- Equality of two trees, as a test. The marks do not count.
use Rattle.std.specs.Prelude.{Bool, true, false, ◌&&◌, List}
use Rattle.std.specs.Cmp.Lexicographic.{pointwise}
use Rattle.std.specs.Ordering.{int_eq}
use Rattle.cedar_types.specs.declared.base.expressions.operators.Var.{Var}
use Rattle.cedar_types.specs.declared.base.expressions.operators.UnaryOp.{UnaryOp}
use Rattle.cedar_types.specs.declared.base.expressions.operators.BinaryOp.{BinaryOp}
use Rattle.cedar_types.specs.declared.base.expressions.patterns.PatternElem.{PatternElem}
use Rattle.cedar_types.specs.declared.base.names.slots.SlotId.{SlotId}
use Rattle.cedar_types.specs.contracts.base.expressions.operators.VarPartialEq.TheImpl as var_impl
use Rattle.cedar_types.specs.contracts.base.expressions.operators.UnaryOpPartialEq.TheImpl as unary_impl
use Rattle.cedar_types.specs.contracts.base.expressions.operators.BinaryOpPartialEq.TheImpl as binary_impl
use Rattle.cedar_types.specs.contracts.base.expressions.patterns.PatternElemPartialEq.TheImpl as pattern_impl
use Rattle.cedar_types.specs.contracts.base.names.slots.SlotIdPartialEq.TheImpl as slot_impl
use Rattle.cedar_types.specs.Names.Comparisons.{bool_eq}
use Rattle.cedar_types.specs.Names.{text_eq, texts_eq, path_eq, uid_eq}
use Rattle.cedar_types.specs.Expressions.Tree.{Lit, bool, long, string, entity, Tree, lit, var, slot, unknown, if_then_else, and, or, unary}
use Rattle.cedar_types.specs.Expressions.Tree.{binary, call, get_attr, has_attr, ext_has_attr, like, is_type, set_of, record_of, Trees}
use Rattle.cedar_types.specs.Expressions.Tree.{no_trees, tree, Fields, no_fields, field}

abbrev pub lit_eq : Lit → Lit → Bool
lit_eq (bool a) (bool b) = bool_eq a b
lit_eq (long a) (long b) = int_eq a b
lit_eq (string a) (string b) = text_eq a b
lit_eq (entity a) (entity b) = uid_eq a b
lit_eq _ _ = false

abbrev pub var_eq : Var → Var → Bool
var_eq = var_impl.ghosts.eq

abbrev pub slot_eq : SlotId → SlotId → Bool
slot_eq = slot_impl.ghosts.eq

abbrev pub unary_eq : UnaryOp → UnaryOp → Bool
unary_eq = unary_impl.ghosts.eq

abbrev pub binary_eq : BinaryOp → BinaryOp → Bool
binary_eq = binary_impl.ghosts.eq

abbrev pub pattern_eq : List PatternElem → List PatternElem → Bool
pattern_eq = pointwise pattern_impl.ghosts.eq

abbrev mutual
  pub tree_eq : {D : Type 0} → Tree D → Tree D → Bool
  tree_eq (lit d x1) (lit e x2) = lit_eq x1 x2
  tree_eq (var d x1) (var e x2) = var_eq x1 x2
  tree_eq (slot d x1) (slot e x2) = slot_eq x1 x2
  tree_eq (unknown d x1) (unknown e x2) = path_eq x1 x2
  tree_eq (if_then_else d x1 y1 z1) (if_then_else e x2 y2 z2) =
      tree_eq x1 x2 && (tree_eq y1 y2 && tree_eq z1 z2)
  tree_eq (and d x1 y1) (and e x2 y2) = tree_eq x1 x2 && tree_eq y1 y2
  tree_eq (or d x1 y1) (or e x2 y2) = tree_eq x1 x2 && tree_eq y1 y2
  tree_eq (unary d x1 y1) (unary e x2 y2) = unary_eq x1 x2 && tree_eq y1 y2
  tree_eq (binary d x1 y1 z1) (binary e x2 y2 z2) =
      binary_eq x1 x2 && (tree_eq y1 y2 && tree_eq z1 z2)
  tree_eq (call d x1 y1) (call e x2 y2) = path_eq x1 x2 && trees_eq y1 y2
  tree_eq (get_attr d x1 y1) (get_attr e x2 y2) = tree_eq x1 x2 && text_eq y1 y2
  tree_eq (has_attr d x1 y1) (has_attr e x2 y2) = tree_eq x1 x2 && text_eq y1 y2
  tree_eq (ext_has_attr d x1 y1 z1) (ext_has_attr e x2 y2 z2) =
      tree_eq x1 x2 && (text_eq y1 y2 && texts_eq z1 z2)
  tree_eq (like d x1 y1) (like e x2 y2) = tree_eq x1 x2 && pattern_eq y1 y2
  tree_eq (is_type d x1 y1) (is_type e x2 y2) = tree_eq x1 x2 && path_eq y1 y2
  tree_eq (set_of d x1) (set_of e x2) = trees_eq x1 x2
  tree_eq (record_of d x1) (record_of e x2) = fields_eq x1 x2
  tree_eq _ _ = false

  pub trees_eq : {D : Type 0} → Trees D → Trees D → Bool
  trees_eq no_trees no_trees = true
  trees_eq (tree t ts) (tree u us) = tree_eq t u && trees_eq ts us
  trees_eq _ _ = false

  pub fields_eq : {D : Type 0} → Fields D → Fields D → Bool
  fields_eq no_fields no_fields = true
  fields_eq (field k t ts) (field l u us) = (text_eq k l && tree_eq t u) && fields_eq ts us
  fields_eq _ _ = false
