-- A coarser view of an expression is its finer view with other marks.
use Rattle.std.proofs.Common.{◌≡◌, List, [], ◌∷◌, Option, map, refl, sym, ap, subst, ◌∙◌}
use Rattle.std.specs.Map.{values_of}
use Rattle.std.specs.declared.alloc.Global.{Global}
use Rattle.std.specs.declared.rc.RcStr.{RcStr}
use Rattle.cedar_types.specs.declared.base.location.Loc.{Loc}
use Rattle.cedar_types.specs.declared.base.expressions.Expr.{Expr}
use Rattle.cedar_types.specs.declared.base.expressions.ExprKind.{ExprKind, Row_of-Expr, end_of-Expr, more_of-Expr, items-the_row-Expr}
use Rattle.cedar_types.specs.declared.base.expressions.ExprKind.{items_shown-the_row-Expr-0, items_shown-the_row-Expr-1}
use Rattle.cedar_types.specs.declared.base.expressions.ExprKind.TheBlock.{shown-the_row-Expr-0, shown-the_row-Expr-1}
use Rattle.cedar_types.specs.declared.base.expressions.ExprKind.TheVariants as K
use Rattle.cedar_types.specs.Names.{text_of, path_of, type_of}
use Rattle.cedar_types.specs.Expressions.Tree.{Tree, lit, var, slot, unknown, if_then_else, and, or, unary, binary, call, get_attr}
use Rattle.cedar_types.specs.Expressions.Tree.{has_attr, ext_has_attr, like, is_type, set_of, record_of, tree, field, map_tree, map_trees}
use Rattle.cedar_types.specs.Expressions.Tree.{map_fields}
use Rattle.cedar_types.specs.Expressions.View.{Places, no_name, of_type, Written, lit_of, lit_places, chain_of, trees_of, fields_of}
use Rattle.cedar_types.specs.Expressions.View.{tree_with, shape, written}
use Rattle.cedar_types.specs.Lemmas.Layers as layers

module _ (T : Type 0) (D E : Type 0) (mark : T → Option Loc → Places → D) (g : D → E) where
  abbrev coarse_mark : T → Option Loc → Places → E
  coarse_mark a l p = g (mark a l p)

  abbrev fine : Expr T → Tree D
  fine = tree_with mark

  abbrev coarse : Expr T → Tree E
  coarse = tree_with coarse_mark

  abbrev expr : T → Option Loc → ExprKind T → Expr T
  expr a l k = record { annotation = a; loc = l; kind = k }

  abbrev Agrees : Expr T → Type 0
  Agrees e = coarse e ≡ map_tree g (fine e)

  abbrev AllAgree : List (Expr T) → Type 0
  AllAgree [] = Unit {0}
  AllAgree (e ∷ es) = Agrees e × AllAgree es

  lists_agree : (es : List (Expr T)) → AllAgree es → trees_of (map coarse es) ≡ map_trees g (trees_of (map fine es))
  lists_agree [] h = refl
  lists_agree (e ∷ es) h = λ i. tree (h.0 i) (lists_agree es h.1 i)

  entries_agree : (es : List (RcStr Global × Expr T)) → AllAgree (values_of es)
      → fields_of (map (λ e. (e.0, coarse e.1)) es) ≡ map_fields g (fields_of (map (λ e. (e.0, fine e.1)) es))
  entries_agree [] h = refl
  entries_agree (e ∷ es) h = λ i. field (text_of e.0) (h.0 i) (entries_agree es h.1 i)

  -- A form agrees if its layers do
  by_layers : (k : ExprKind T) (d : Places → D) → layers.layer T E coarse_mark k (λ p. g (d p)) ≡ map_tree g (layers.layer T D mark k d)
      → layers.form T E coarse_mark k (λ p. g (d p)) ≡ map_tree g (layers.form T D mark k d)
  by_layers k d h = layers.is_layer T E coarse_mark k (λ p. g (d p)) ∙ h ∙ sym (ap (map_tree g) (layers.is_layer T D mark k d))

  from_form : (e : Expr T)
      → ((d : Places → D) → layers.form T E coarse_mark e.kind (λ p. g (d p))
      ≡ map_tree g (layers.form T D mark e.kind d)) → Agrees e
  from_form e h =
      layers.seen_by_form T E coarse_mark e ∙ h (mark e.annotation e.loc)
      ∙ sym (ap (map_tree g) (layers.seen_by_form T D mark e))

  mutual
    forms_agree : (k : ExprKind T) (d : Places → D) → layers.form T E coarse_mark k (λ p. g (d p)) ≡ map_tree g (layers.form T D mark k d)
    forms_agree (K.Lit x1) d = by_layers (K.Lit x1) d (λ i. lit (g (d (lit_places x1))) (lit_of x1))
    forms_agree (K.Var x1) d = by_layers (K.Var x1) d (λ i. var (g (d no_name)) x1)
    forms_agree (K.Slot x1) d = by_layers (K.Slot x1) d (λ i. slot (g (d no_name)) x1)
    forms_agree (K.Unknown x1) d = by_layers (K.Unknown x1) d (λ i. unknown (g (d no_name)) (path_of x1))
    forms_agree (K.If' p1 a1 l1 k1 p2 a2 l2 k2 p3 a3 l3 k3) d =
        by_layers (K.If' p1 a1 l1 k1 p2 a2 l2 k2 p3 a3 l3 k3) d
        (λ i. if_then_else (g (d no_name)) (from_form (expr a1 l1 k1) (forms_agree k1) i)
        (from_form (expr a2 l2 k2) (forms_agree k2) i) (from_form (expr a3 l3 k3) (forms_agree k3) i))
    forms_agree (K.And' p1 a1 l1 k1 p2 a2 l2 k2) d =
        by_layers (K.And' p1 a1 l1 k1 p2 a2 l2 k2) d
        (λ i. and (g (d no_name)) (from_form (expr a1 l1 k1) (forms_agree k1) i)
        (from_form (expr a2 l2 k2) (forms_agree k2) i))
    forms_agree (K.Or' p1 a1 l1 k1 p2 a2 l2 k2) d =
        by_layers (K.Or' p1 a1 l1 k1 p2 a2 l2 k2) d
        (λ i. or (g (d no_name)) (from_form (expr a1 l1 k1) (forms_agree k1) i)
        (from_form (expr a2 l2 k2) (forms_agree k2) i))
    forms_agree (K.UnaryApp' x1 p2 a2 l2 k2) d =
        by_layers (K.UnaryApp' x1 p2 a2 l2 k2) d
        (λ i. unary (g (d no_name)) x1 (from_form (expr a2 l2 k2) (forms_agree k2) i))
    forms_agree (K.BinaryApp' x1 p2 a2 l2 k2 p3 a3 l3 k3) d =
        by_layers (K.BinaryApp' x1 p2 a2 l2 k2 p3 a3 l3 k3) d
        (λ i. binary (g (d no_name)) x1 (from_form (expr a2 l2 k2) (forms_agree k2) i)
        (from_form (expr a3 l3 k3) (forms_agree k3) i))
    forms_agree (K.ExtensionFunctionApp' x1 h2 r2) d =
        by_layers (K.ExtensionFunctionApp' x1 h2 r2) d
        (λ i. call (g (d no_name)) (path_of x1)
        (lists_agree (shown-the_row-Expr-0 T h2 r2).items
        (subst AllAgree (sym (items_shown-the_row-Expr-0 T h2 r2)) (rows_agree r2)) i))
    forms_agree (K.GetAttr' p1 a1 l1 k1 x2) d =
        by_layers (K.GetAttr' p1 a1 l1 k1 x2) d
        (λ i. get_attr (g (d no_name)) (from_form (expr a1 l1 k1) (forms_agree k1) i) (text_of x2))
    forms_agree (K.HasAttr' p1 a1 l1 k1 x2) d =
        by_layers (K.HasAttr' p1 a1 l1 k1 x2) d
        (λ i. has_attr (g (d no_name)) (from_form (expr a1 l1 k1) (forms_agree k1) i) (text_of x2))
    forms_agree (K.ExtHasAttr' p1 a1 l1 k1 x2) d =
        by_layers (K.ExtHasAttr' p1 a1 l1 k1 x2) d
        (λ i. ext_has_attr (g (d no_name)) (from_form (expr a1 l1 k1) (forms_agree k1) i)
        (chain_of x2).0 (chain_of x2).1)
    forms_agree (K.Like' p1 a1 l1 k1 x2) d =
        by_layers (K.Like' p1 a1 l1 k1 x2) d
        (λ i. like (g (d no_name)) (from_form (expr a1 l1 k1) (forms_agree k1) i) x2.items)
    forms_agree (K.Is' p1 a1 l1 k1 x2) d =
        by_layers (K.Is' p1 a1 l1 k1 x2) d
        (λ i. is_type (g (d (of_type x2.loc))) (from_form (expr a1 l1 k1) (forms_agree k1) i) (type_of x2))
    forms_agree (K.Set' h1 r1) d =
        by_layers (K.Set' h1 r1) d
        (λ i. set_of (g (d no_name))
        (lists_agree (shown-the_row-Expr-0 T h1 r1).items
        (subst AllAgree (sym (items_shown-the_row-Expr-0 T h1 r1)) (rows_agree r1)) i))
    forms_agree (K.Record' h1 r1) d =
        by_layers (K.Record' h1 r1) d
        (λ i. record_of (g (d no_name))
        (entries_agree (shown-the_row-Expr-1 T h1 r1).entries
        (subst AllAgree (sym (items_shown-the_row-Expr-1 T h1 r1)) (rows_agree r1)) i))

    rows_agree : {n : _} → (r : Row_of-Expr T n) → AllAgree (items-the_row-Expr T n r)
    rows_agree end_of-Expr = tt
    rows_agree (more_of-Expr a l k rest) = (from_form (expr a l k) (forms_agree k), rows_agree rest)

  -- The tree with the marks `g d` is the tree with the marks `d`, mapped by `g`
  pub tree_with-map : (e : Expr T) → tree_with (λ a l p. g (mark a l p)) e ≡ map_tree g (tree_with mark e)
  tree_with-map e = from_form e (forms_agree e.kind)

-- The shape of an expression is its written tree without marks
pub shape-written : {T : Type 0} (e : Expr T) → shape e ≡ map_tree (λ (_ : Written). tt) (written e)
shape-written {T} e = tree_with-map T Written (Unit {0}) (λ _ l p. record { place = l; names = p }) (λ _. tt) e

-- Two expressions with equal written trees have one shape
pub one_shape : {T : Type 0} (a b : Expr T) → written a ≡ written b → shape a ≡ shape b
one_shape a b h = shape-written a ∙ ap (map_tree (λ (_ : Written). tt)) h ∙ sym (shape-written b)
