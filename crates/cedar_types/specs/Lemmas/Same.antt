-- The derived `==` of expressions holds exactly if the shapes are equal.
use Rattle.std.proofs.Common.{◌≡◌, Bool, ◌&&◌, List, [], ◌∷◌, Option, map, refl, sym, subst, ◌∙◌}
use Rattle.std.specs.declared.alloc.Global.{Global}
use Rattle.std.specs.declared.rc.RcStr.{RcStr}
use Rattle.std.specs.Cmp.Lexicographic.{pointwise}
use Rattle.std.specs.Map.{values_of}
use Rattle.std.below.core.specs.Cmp.Derive.Mapped.{pointwise-map}
use denote.RattleType.{RattleType}
use denote.Hole.Carrier.{out}
use Rattle.cedar_types.specs.declared.base.location.Loc.{Loc}
use Rattle.cedar_types.specs.declared.base.expressions.literals.Literal.{Literal}
use Rattle.cedar_types.specs.declared.base.expressions.Expr.{Expr}
use Rattle.cedar_types.specs.declared.base.expressions.ExprKind.{ExprKind, Row_of-Expr, end_of-Expr, more_of-Expr, items-the_row-Expr}
use Rattle.cedar_types.specs.declared.base.expressions.ExprKind.{items_shown-the_row-Expr-0, items_shown-the_row-Expr-1}
use Rattle.cedar_types.specs.declared.base.expressions.ExprKind.TheBlock.{shown-the_row-Expr-0, shown-the_row-Expr-1}
use Rattle.cedar_types.specs.declared.base.expressions.ExprKind.TheViews.{out-ExprKind}
use Rattle.cedar_types.specs.declared.base.expressions.ExprKind.TheVariants as K
use Rattle.cedar_types.specs.contracts.base.expressions.literals.LiteralPartialEq.TheImpl as literal_impl
use Rattle.cedar_types.specs.contracts.base.expressions.ExprPartialEq.TheImpl as expr_eq
use Rattle.cedar_types.specs.contracts.base.expressions.ExprPartialEq.TheImpl.Laws as expr_laws
use Rattle.cedar_types.specs.contracts.base.expressions.ExprKindPartialEq.TheImpl.Laws as kind_laws
use Rattle.cedar_types.specs.Names.{text_of, text_eq}
use Rattle.cedar_types.specs.Lemmas.Comparisons.{name_is, entity_type_is, uid_is}
use Rattle.cedar_types.specs.Expressions.Tree.{Tree}
use Rattle.cedar_types.specs.Expressions.TreeEq.{lit_eq, var_eq, slot_eq, unary_eq, binary_eq, pattern_eq, tree_eq, trees_eq, fields_eq}
use Rattle.cedar_types.specs.Expressions.View.{lit_of, shape, trees_of, fields_of}
use Rattle.cedar_types.specs.Lemmas.Layers as layers

lit_is : (x y : Literal) → literal_impl.ghosts.eq x y ≡ lit_eq (lit_of x) (lit_of y)
lit_is (Literal.Bool a) (Literal.Bool b) = refl
lit_is (Literal.Long a) (Literal.Long b) = refl
lit_is (Literal.String a) (Literal.String b) = refl
lit_is (Literal.EntityUID a) (Literal.EntityUID b) = uid_is a b
lit_is x y = refl

trees_eq-lists : {D : Type 0} (ts us : List (Tree D)) → trees_eq (trees_of ts) (trees_of us) ≡ pointwise tree_eq ts us
trees_eq-lists [] [] = refl
trees_eq-lists [] (u ∷ us) = refl
trees_eq-lists (t ∷ ts) [] = refl
trees_eq-lists (t ∷ ts) (u ∷ us) = λ i. tree_eq t u && trees_eq-lists ts us i

module _ (T' : RattleType) where
  abbrev T : Type 0
  T = T'.Denot

  abbrev eq : Expr T → Expr T → Bool
  eq = (expr_eq.ghosts T').eq

  abbrev expr : T → Option Loc → ExprKind T → Expr T
  expr a l k = record { annotation = a; loc = l; kind = k }

  abbrev layer : ExprKind T → Tree (Unit {0})
  layer k = layers.layer T (Unit {0}) (λ _ _ _. tt) k (λ _. tt)

  shape_is_layer : (e : Expr T) → shape e ≡ layer e.kind
  shape_is_layer e = layers.seen_by_form T (Unit {0}) (λ _ _ _. tt) e ∙ layers.is_layer T (Unit {0}) (λ _ _ _. tt) e.kind (λ _. tt)

  -- the two tests agree at x
  abbrev Agrees : Expr T → Type 0
  Agrees x = (y : Expr T) → eq x y ≡ tree_eq (shape x) (shape y)

  abbrev AllAgree : List (Expr T) → Type 0
  AllAgree [] = Unit {0}
  AllAgree (x ∷ xs) = Agrees x × AllAgree xs

  lists_agree : (xs ys : List (Expr T)) → AllAgree xs → pointwise eq xs ys ≡ trees_eq (trees_of (map shape xs)) (trees_of (map shape ys))
  lists_agree [] [] h = refl
  lists_agree [] (y ∷ ys) h = refl
  lists_agree (x ∷ xs) [] h = refl
  lists_agree (x ∷ xs) (y ∷ ys) h = λ i. h.0 y i && lists_agree xs ys h.1 i

  entries_agree : (xs ys : List (RcStr Global × Expr T)) → AllAgree (values_of xs)
      → pointwise (λ p q. text_eq (text_of p.0) (text_of q.0) && eq p.1 q.1) xs ys
      ≡ fields_eq (fields_of (map (λ e. (e.0, shape e.1)) xs)) (fields_of (map (λ e. (e.0, shape e.1)) ys))
  entries_agree [] [] h = refl
  entries_agree [] (y ∷ ys) h = refl
  entries_agree (x ∷ xs) [] h = refl
  entries_agree (x ∷ xs) (y ∷ ys) h = λ i. (text_eq (text_of x.0) (text_of y.0) && h.0 y.1 i) && entries_agree xs ys h.1 i

  -- from one step of the derived `==`, which is at the forms one layer deep
  agrees : (x : Expr T) → ((k : ExprKind T) → kind_laws.unfolded T' x.kind k ≡ tree_eq (layer x.kind) (layer k)) → Agrees x
  agrees x h y =
      expr_laws.is T' x y ∙ kind_laws.is T' x.kind y.kind ∙ h y.kind ∙ sym (λ i. tree_eq (shape_is_layer x i) (shape_is_layer y i))

  mutual
    unfolding out-ExprKind out

    step_is : (x y : ExprKind T) → kind_laws.unfolded T' x y ≡ tree_eq (layer x) (layer y)
    step_is (K.Lit x1) (K.Lit x1b) = λ i. lit_is x1 x1b i
    step_is (K.Var x1) (K.Var x1b) = λ i. var_eq x1 x1b
    step_is (K.Slot x1) (K.Slot x1b) = λ i. slot_eq x1 x1b
    step_is (K.Unknown x1) (K.Unknown x1b) = λ i. name_is x1 x1b i
    step_is (K.If' p1 a1 l1 k1 p2 a2 l2 k2 p3 a3 l3 k3) (K.If' p1b a1b l1b k1b p2b a2b l2b k2b p3b a3b l3b k3b) =
        λ i. (agrees (expr a1 l1 k1) (step_is k1) (expr a1b l1b k1b) i)
        && ((agrees (expr a2 l2 k2) (step_is k2) (expr a2b l2b k2b) i)
        && (agrees (expr a3 l3 k3) (step_is k3) (expr a3b l3b k3b) i))
    step_is (K.And' p1 a1 l1 k1 p2 a2 l2 k2) (K.And' p1b a1b l1b k1b p2b a2b l2b k2b) =
        λ i. (agrees (expr a1 l1 k1) (step_is k1) (expr a1b l1b k1b) i)
        && (agrees (expr a2 l2 k2) (step_is k2) (expr a2b l2b k2b) i)
    step_is (K.Or' p1 a1 l1 k1 p2 a2 l2 k2) (K.Or' p1b a1b l1b k1b p2b a2b l2b k2b) =
        λ i. (agrees (expr a1 l1 k1) (step_is k1) (expr a1b l1b k1b) i)
        && (agrees (expr a2 l2 k2) (step_is k2) (expr a2b l2b k2b) i)
    step_is (K.UnaryApp' x1 p2 a2 l2 k2) (K.UnaryApp' x1b p2b a2b l2b k2b) =
        λ i. (unary_eq x1 x1b) && (agrees (expr a2 l2 k2) (step_is k2) (expr a2b l2b k2b) i)
    step_is (K.BinaryApp' x1 p2 a2 l2 k2 p3 a3 l3 k3) (K.BinaryApp' x1b p2b a2b l2b k2b p3b a3b l3b k3b) =
        λ i. (binary_eq x1 x1b) && ((agrees (expr a2 l2 k2) (step_is k2) (expr a2b l2b k2b) i)
        && (agrees (expr a3 l3 k3) (step_is k3) (expr a3b l3b k3b) i))
    step_is (K.ExtensionFunctionApp' x1 h2 r2) (K.ExtensionFunctionApp' x1b h2b r2b) =
        λ i. (name_is x1 x1b i) && (lists_agree (shown-the_row-Expr-0 T h2 r2).items
        (shown-the_row-Expr-0 T h2b r2b).items
        (subst AllAgree (sym (items_shown-the_row-Expr-0 T h2 r2)) (rows_agree r2)) i)
    step_is (K.GetAttr' p1 a1 l1 k1 x2) (K.GetAttr' p1b a1b l1b k1b x2b) =
        λ i. (agrees (expr a1 l1 k1) (step_is k1) (expr a1b l1b k1b) i) && (text_eq (text_of x2) (text_of x2b))
    step_is (K.HasAttr' p1 a1 l1 k1 x2) (K.HasAttr' p1b a1b l1b k1b x2b) =
        λ i. (agrees (expr a1 l1 k1) (step_is k1) (expr a1b l1b k1b) i) && (text_eq (text_of x2) (text_of x2b))
    step_is (K.ExtHasAttr' p1 a1 l1 k1 x2) (K.ExtHasAttr' p1b a1b l1b k1b x2b) =
        λ i. (agrees (expr a1 l1 k1) (step_is k1) (expr a1b l1b k1b) i)
        && ((text_eq (text_of x2.first) (text_of x2b.first))
        && (sym (pointwise-map text_of text_eq x2.rest.items x2b.rest.items) i))
    step_is (K.Like' p1 a1 l1 k1 x2) (K.Like' p1b a1b l1b k1b x2b) =
        λ i. (agrees (expr a1 l1 k1) (step_is k1) (expr a1b l1b k1b) i) && (pattern_eq x2.items x2b.items)
    step_is (K.Is' p1 a1 l1 k1 x2) (K.Is' p1b a1b l1b k1b x2b) =
        λ i. (agrees (expr a1 l1 k1) (step_is k1) (expr a1b l1b k1b) i) && (entity_type_is x2 x2b i)
    step_is (K.Set' h1 r1) (K.Set' h1b r1b) =
        λ i. lists_agree (shown-the_row-Expr-0 T h1 r1).items (shown-the_row-Expr-0 T h1b r1b).items
        (subst AllAgree (sym (items_shown-the_row-Expr-0 T h1 r1)) (rows_agree r1)) i
    step_is (K.Record' h1 r1) (K.Record' h1b r1b) =
        λ i. entries_agree (shown-the_row-Expr-1 T h1 r1).entries (shown-the_row-Expr-1 T h1b r1b).entries
        (subst AllAgree (sym (items_shown-the_row-Expr-1 T h1 r1)) (rows_agree r1)) i
    step_is x y = refl

    rows_agree : {n : _} → (r : Row_of-Expr T n) → AllAgree (items-the_row-Expr T n r)
    rows_agree end_of-Expr = tt
    rows_agree (more_of-Expr a l k rest) = (agrees (expr a l k) (step_is k), rows_agree rest)

  -- `==` is equality of shapes
  pub expr_is : (x y : Expr T) → eq x y ≡ tree_eq (shape x) (shape y)
  expr_is x = agrees x (step_is x.kind)
