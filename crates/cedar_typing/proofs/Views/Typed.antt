-- A typed expression of the program as a tree, one layer deep.
use Rattle.std.proofs.Common.{◌≡◌, refl, ap, ◌∙◌, Option, option_map}
use Rattle.cedar_types.specs.declared.base.location.Loc.{Loc}
use Rattle.cedar_types.specs.declared.base.expressions.Expr.{Expr}
use Rattle.cedar_types.specs.declared.base.expressions.ExprKind.{ExprKind}
use Rattle.cedar_types.specs.declared.base.expressions.ExprKind.TheVariants as K
use Rattle.cedar_types.specs.declared.base.types.CedarType.{CedarType}
use Rattle.cedar_types.specs.Types.{ty_of}
use Rattle.cedar_types.specs.Expressions.View.{Places, Written, shape, written}
use Rattle.cedar_types.specs.Lemmas.Layers as layers
use Rattle.cedar_typing.specs.TypedExpr.{Mark, mark_of, annotation, place_of, typed_tree}

-- the mark at the root of a layer, at some places of names
root : (T D : Type 0) (mark : T → Option Loc → Places → D) (k : ExprKind T) (d : Places → D)
    → (p : Places) × (mark_of (layers.layer T D mark k d) ≡ d p)
root T D mark (K.Lit x1) d = (_, refl)
root T D mark (K.Var x1) d = (_, refl)
root T D mark (K.Slot x1) d = (_, refl)
root T D mark (K.Unknown x1) d = (_, refl)
root T D mark (K.If' p1 a1 l1 k1 p2 a2 l2 k2 p3 a3 l3 k3) d = (_, refl)
root T D mark (K.And' p1 a1 l1 k1 p2 a2 l2 k2) d = (_, refl)
root T D mark (K.Or' p1 a1 l1 k1 p2 a2 l2 k2) d = (_, refl)
root T D mark (K.UnaryApp' x1 p2 a2 l2 k2) d = (_, refl)
root T D mark (K.BinaryApp' x1 p2 a2 l2 k2 p3 a3 l3 k3) d = (_, refl)
root T D mark (K.ExtensionFunctionApp' x1 h2 r2) d = (_, refl)
root T D mark (K.GetAttr' p1 a1 l1 k1 x2) d = (_, refl)
root T D mark (K.HasAttr' p1 a1 l1 k1 x2) d = (_, refl)
root T D mark (K.ExtHasAttr' p1 a1 l1 k1 x2) d = (_, refl)
root T D mark (K.Like' p1 a1 l1 k1 x2) d = (_, refl)
root T D mark (K.Is' p1 a1 l1 k1 x2) d = (_, refl)
root T D mark (K.Set' h1 r1) d = (_, refl)
root T D mark (K.Record' h1 r1) d = (_, refl)

abbrev Type' : Type 0
Type' = Option CedarType

abbrev mark : Type' → Option Loc → Places → Mark
mark t l p = record { ty = option_map ty_of t; at = record { place = l; names = p } }

-- the tree of an expression by the form at its root
pub by_layer : (e : Expr Type') → typed_tree e ≡ layers.layer Type' Mark mark e.kind (mark e.annotation e.loc)
by_layer e = layers.seen_by_form Type' Mark mark e ∙ layers.is_layer Type' Mark mark e.kind (mark e.annotation e.loc)

-- the type at the root of the tree is that of the expression
pub annotation_is : (e : Expr Type') → annotation (typed_tree e) ≡ option_map ty_of e.annotation
annotation_is e = ap annotation (by_layer e) ∙ ap (λ (m : Mark). m.ty) (root Type' Mark mark e.kind (mark e.annotation e.loc)).1

-- ---- places of expressions as they were written

abbrev node : Unit {0} → Option Loc → Places → Written
node a l p = record { place = l; names = p }

-- the tree of an expression by the form at its root
pub written_by_layer : (e : Expr (Unit {0})) → written e ≡ layers.layer (Unit {0}) Written node e.kind (node tt e.loc)
written_by_layer e = layers.seen_by_form (Unit {0}) Written node e ∙ layers.is_layer (Unit {0}) Written node e.kind (node tt e.loc)

pub written_as : (e : Expr (Unit {0})) (k : ExprKind (Unit {0})) → e.kind ≡ k
    → written e ≡ layers.layer (Unit {0}) Written node k (node tt e.loc)
written_as e k h = written_by_layer e ∙ ap (λ k. layers.layer (Unit {0}) Written node k (node tt e.loc)) h

-- the shape of an expression of a known form
pub shape_as : (e : Expr (Unit {0})) (k : ExprKind (Unit {0})) → e.kind ≡ k
    → shape e ≡ layers.layer (Unit {0}) (Unit {0}) (λ _ _ _. tt) k (λ _. tt)
shape_as e k h =
    layers.seen_by_form (Unit {0}) (Unit {0}) (λ _ _ _. tt) e
    ∙ layers.is_layer (Unit {0}) (Unit {0}) (λ _ _ _. tt) e.kind (λ _. tt)
    ∙ ap (λ k. layers.layer (Unit {0}) (Unit {0}) (λ _ _ _. tt) k (λ _. tt)) h

-- the place at the root of the tree is that of the expression
pub place_is : (e : Expr (Unit {0})) → place_of (written e) ≡ e.loc
place_is e = ap place_of (written_by_layer e) ∙ ap (λ (m : Written). m.place) (root (Unit {0}) Written node e.kind (node tt e.loc)).1
