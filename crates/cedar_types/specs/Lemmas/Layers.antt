-- The tree of an expression, one layer deep: a form beside the trees of its parts.
use Rattle.std.proofs.Common.{◌≡◌, Option, map, rules}
use denote.Hole.Carrier.{out}
use Rattle.cedar_types.specs.declared.base.location.Loc.{Loc}
use Rattle.cedar_types.specs.declared.base.expressions.Expr.{Expr}
use Rattle.cedar_types.specs.declared.base.expressions.ExprKind.{ExprKind, fold_out-ExprKind, map-ExprKind, the_lemmas}
use Rattle.cedar_types.specs.declared.base.expressions.ExprKind.TheBlock.{shown-the_row-Expr-0, shown-the_row-Expr-1}
use Rattle.cedar_types.specs.declared.base.expressions.ExprKind.TheViews.{out-ExprKind}
use Rattle.cedar_types.specs.declared.base.expressions.ExprKind.TheVariants as K
use Rattle.cedar_types.specs.Names.{text_of, path_of, type_of}
use Rattle.cedar_types.specs.Expressions.Tree.{Tree, lit, var, slot, unknown, if_then_else, and, or, unary, binary, call, get_attr}
use Rattle.cedar_types.specs.Expressions.Tree.{has_attr, ext_has_attr, like, is_type, set_of, record_of}
use Rattle.cedar_types.specs.Expressions.View.{Places, no_name, of_type, lit_of, lit_places, chain_of, trees_of, fields_of, kind_step}
use Rattle.cedar_types.specs.Expressions.View.{expr_step, tree_with, kind_with}

module _ (T : Type 0) (D : Type 0) (mark : T → Option Loc → Places → D) where
  abbrev pub expr : T → Option Loc → ExprKind T → Expr T
  expr a l k = record { annotation = a; loc = l; kind = k }

  abbrev pub seen : Expr T → Tree D
  seen = tree_with mark

  abbrev pub form : ExprKind T → (Places → D) → Tree D
  form = kind_with mark

  pub seen_by_form : (e : Expr T) → seen e ≡ form e.kind (mark e.annotation e.loc)
  seen_by_form e = search (rules, the_lemmas)

  -- a form by the trees of its parts
  abbrev pub layer : ExprKind T → (Places → D) → Tree D
  layer (K.Lit x1) d = lit (d (lit_places x1)) (lit_of x1)
  layer (K.Var x1) d = var (d no_name) x1
  layer (K.Slot x1) d = slot (d no_name) x1
  layer (K.Unknown x1) d = unknown (d no_name) (path_of x1)
  layer (K.If' p1 a1 l1 k1 p2 a2 l2 k2 p3 a3 l3 k3) d =
      if_then_else (d no_name) (seen (expr a1 l1 k1)) (seen (expr a2 l2 k2)) (seen (expr a3 l3 k3))
  layer (K.And' p1 a1 l1 k1 p2 a2 l2 k2) d = and (d no_name) (seen (expr a1 l1 k1)) (seen (expr a2 l2 k2))
  layer (K.Or' p1 a1 l1 k1 p2 a2 l2 k2) d = or (d no_name) (seen (expr a1 l1 k1)) (seen (expr a2 l2 k2))
  layer (K.UnaryApp' x1 p2 a2 l2 k2) d = unary (d no_name) x1 (seen (expr a2 l2 k2))
  layer (K.BinaryApp' x1 p2 a2 l2 k2 p3 a3 l3 k3) d = binary (d no_name) x1 (seen (expr a2 l2 k2)) (seen (expr a3 l3 k3))
  layer (K.ExtensionFunctionApp' x1 h2 r2) d = call (d no_name) (path_of x1) (trees_of (map seen (shown-the_row-Expr-0 T h2 r2).items))
  layer (K.GetAttr' p1 a1 l1 k1 x2) d = get_attr (d no_name) (seen (expr a1 l1 k1)) (text_of x2)
  layer (K.HasAttr' p1 a1 l1 k1 x2) d = has_attr (d no_name) (seen (expr a1 l1 k1)) (text_of x2)
  layer (K.ExtHasAttr' p1 a1 l1 k1 x2) d = ext_has_attr (d no_name) (seen (expr a1 l1 k1)) (chain_of x2).0 (chain_of x2).1
  layer (K.Like' p1 a1 l1 k1 x2) d = like (d no_name) (seen (expr a1 l1 k1)) x2.items
  layer (K.Is' p1 a1 l1 k1 x2) d = is_type (d (of_type x2.loc)) (seen (expr a1 l1 k1)) (type_of x2)
  layer (K.Set' h1 r1) d = set_of (d no_name) (trees_of (map seen (shown-the_row-Expr-0 T h1 r1).items))
  layer (K.Record' h1 r1) d = record_of (d no_name) (fields_of (map (λ e. (e.0, seen e.1)) (shown-the_row-Expr-1 T h1 r1).entries))

  opened : (k : ExprKind T) (d : Places → D)
      → form k d ≡ kind_step T D (map-ExprKind T (ExprKind T) (Expr T) ((Places → D) → Tree D)
      (Tree D) form seen (out-ExprKind T k)) d
  opened k d = λ i. fold_out-ExprKind T ((Places → D) → Tree D) (Tree D) (kind_step T D) (expr_step T D mark) k i d

  pub is_layer : (k : ExprKind T) (d : Places → D) → form k d ≡ layer k d
  unfolding out-ExprKind out
  is_layer (K.Lit x1) d = opened (K.Lit x1) d
  is_layer (K.Var x1) d = opened (K.Var x1) d
  is_layer (K.Slot x1) d = opened (K.Slot x1) d
  is_layer (K.Unknown x1) d = opened (K.Unknown x1) d
  is_layer (K.If' p1 a1 l1 k1 p2 a2 l2 k2 p3 a3 l3 k3) d = opened (K.If' p1 a1 l1 k1 p2 a2 l2 k2 p3 a3 l3 k3) d
  is_layer (K.And' p1 a1 l1 k1 p2 a2 l2 k2) d = opened (K.And' p1 a1 l1 k1 p2 a2 l2 k2) d
  is_layer (K.Or' p1 a1 l1 k1 p2 a2 l2 k2) d = opened (K.Or' p1 a1 l1 k1 p2 a2 l2 k2) d
  is_layer (K.UnaryApp' x1 p2 a2 l2 k2) d = opened (K.UnaryApp' x1 p2 a2 l2 k2) d
  is_layer (K.BinaryApp' x1 p2 a2 l2 k2 p3 a3 l3 k3) d = opened (K.BinaryApp' x1 p2 a2 l2 k2 p3 a3 l3 k3) d
  is_layer (K.ExtensionFunctionApp' x1 h2 r2) d = opened (K.ExtensionFunctionApp' x1 h2 r2) d
  is_layer (K.GetAttr' p1 a1 l1 k1 x2) d = opened (K.GetAttr' p1 a1 l1 k1 x2) d
  is_layer (K.HasAttr' p1 a1 l1 k1 x2) d = opened (K.HasAttr' p1 a1 l1 k1 x2) d
  is_layer (K.ExtHasAttr' p1 a1 l1 k1 x2) d = opened (K.ExtHasAttr' p1 a1 l1 k1 x2) d
  is_layer (K.Like' p1 a1 l1 k1 x2) d = opened (K.Like' p1 a1 l1 k1 x2) d
  is_layer (K.Is' p1 a1 l1 k1 x2) d = opened (K.Is' p1 a1 l1 k1 x2) d
  is_layer (K.Set' h1 r1) d = opened (K.Set' h1 r1) d
  is_layer (K.Record' h1 r1) d = opened (K.Record' h1 r1) d
