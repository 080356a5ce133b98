-- An expression at another place, as a tree.
use Rattle.std.proofs.Common.{◌≡◌, refl, sym, ap, ◌∙◌, Option}
use Rattle.cedar_types.specs.declared.base.location.Loc.{Loc}
use Rattle.cedar_types.specs.declared.base.expressions.ExprKind.{ExprKind}
use Rattle.cedar_types.specs.declared.base.expressions.ExprKind.TheVariants as K
use Rattle.cedar_types.specs.Expressions.Tree.{Tree}
use Rattle.cedar_types.specs.Expressions.View.{Places, Written, written}
use Rattle.cedar_types.specs.Lemmas.Layers as layers
use Rattle.cedar_types.specs.Expressions.Makers.{at_place}

module _ (T : Type 0) where
  abbrev mark : T → Option Loc → Places → Written
  mark a l p = record { place = l; names = p }

  abbrev at : Option Loc → Places → Written
  at l p = record { place = l; names = p }

  abbrev layer : ExprKind T → Option Loc → Tree Written
  layer k l = layers.layer T Written mark k (at l)

  -- Layers of one form at two places differ only in the place
  layer_at : (k : ExprKind T) (l m : Option Loc) → layer k m ≡ at_place m (layer k l)
  layer_at (K.Lit x1) l m = refl
  layer_at (K.Var x1) l m = refl
  layer_at (K.Slot x1) l m = refl
  layer_at (K.Unknown x1) l m = refl
  layer_at (K.If' p1 a1 l1 k1 p2 a2 l2 k2 p3 a3 l3 k3) l m = refl
  layer_at (K.And' p1 a1 l1 k1 p2 a2 l2 k2) l m = refl
  layer_at (K.Or' p1 a1 l1 k1 p2 a2 l2 k2) l m = refl
  layer_at (K.UnaryApp' x1 p2 a2 l2 k2) l m = refl
  layer_at (K.BinaryApp' x1 p2 a2 l2 k2 p3 a3 l3 k3) l m = refl
  layer_at (K.ExtensionFunctionApp' x1 h2 r2) l m = refl
  layer_at (K.GetAttr' p1 a1 l1 k1 x2) l m = refl
  layer_at (K.HasAttr' p1 a1 l1 k1 x2) l m = refl
  layer_at (K.ExtHasAttr' p1 a1 l1 k1 x2) l m = refl
  layer_at (K.Like' p1 a1 l1 k1 x2) l m = refl
  layer_at (K.Is' p1 a1 l1 k1 x2) l m = refl
  layer_at (K.Set' h1 r1) l m = refl
  layer_at (K.Record' h1 r1) l m = refl

  form_at : (k : ExprKind T) (l m : Option Loc) → layers.form T Written mark k (at m) ≡ at_place m (layers.form T Written mark k (at l))
  form_at k l m =
      layers.is_layer T Written mark k (at m)
      ∙ layer_at k l m
      ∙ ap (at_place m) (sym (layers.is_layer T Written mark k (at l)))

  -- The tree of an expression at another place is its tree with that place
  pub written-at : (a : T) (k : ExprKind T) (l m : Option Loc) → written (layers.expr T Written mark a m k)
      ≡ at_place m (written (layers.expr T Written mark a l k))
  written-at a k l m =
      layers.seen_by_form T Written mark (layers.expr T Written mark a m k)
      ∙ form_at k l m
      ∙ ap (at_place m) (sym (layers.seen_by_form T Written mark (layers.expr T Written mark a l k)))
