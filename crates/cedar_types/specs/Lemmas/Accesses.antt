-- The equality and the order of capabilities' owners are lawful.
use Rattle.std.proofs.Common.{◌≡◌, Bool, true, false, ◌&&◌, List, [], ◌∷◌, Option, fold, refl, sym, ap, ◌∙◌, true≢false}
use Rattle.std.specs.Cmp.{IsTotalOrder, IsEquivalence, on_total, on_equiv, decided, then_total}
use Rattle.std.specs.Cmp.Lexicographic.{slice_cmp, lists_total, nat_list_cmp_total, texts_ties}
use Rattle.std.specs.Ordering.{is_eq, ordering_then}
use Rattle.std.specs.declared.cmp.Ordering.{Ordering}
use Rattle.std.specs.declared.cmp.Ordering.TheVariants.{Less, Equal, Greater}
use denote.Builtin.{unit}
use Rattle.cedar_types.specs.declared.base.location.Loc.{Loc}
use Rattle.cedar_types.specs.declared.base.expressions.Expr.{Expr}
use Rattle.cedar_types.specs.declared.base.expressions.ExprKind.{ExprKind}
use Rattle.cedar_types.specs.declared.base.expressions.ExprKind.TheVariants as K
use Rattle.cedar_types.specs.declared.types.capability.owners.Owner.{Owner}
use Rattle.cedar_types.specs.contracts.base.expressions.ExprOrd.TheImpl.Laws as expr_ord_laws
use Rattle.cedar_types.specs.Accesses.{got, Spine, push, spine_of, spine, bottom_cmp, spine_cmp, shape_on, spine_on}
use Rattle.cedar_types.specs.Accesses.{owner_eq, owner_cmp, texts_at}
use Rattle.cedar_types.specs.Lemmas.Layers as layers
use Rattle.cedar_types.specs.Lemmas.Same.{expr_is}
use Rattle.cedar_types.specs.Lemmas.TreeSame.{tree_eq-Decides}
use Rattle.cedar_types.specs.Names.{Text, text_of, text_cmp}
use Rattle.cedar_types.specs.Expressions.Tree.{Shape, get_attr}
use Rattle.cedar_types.specs.Expressions.TreeEq.{tree_eq}
use Rattle.cedar_types.specs.Expressions.View.{shape}

pub owner_eq_equiv : IsEquivalence owner_eq
owner_eq_equiv = on_equiv shape_on (decided tree_eq tree_eq-Decides)

texts_cmp_total : IsTotalOrder (slice_cmp text_cmp)
texts_cmp_total = lists_total nat_list_cmp_total

spine_cmp_total : IsTotalOrder spine_cmp
unfolding bottom_cmp
spine_cmp_total = then_total (on_total (λ (p : Spine). p.0) texts_cmp_total) (on_total (λ (p : Spine). p.1) (expr_ord_laws.total-law unit))

pub owner_cmp_total : IsTotalOrder owner_cmp
unfolding owner_cmp
owner_cmp_total = on_total spine_on spine_cmp_total

-- ---- the shape of a spine

abbrev rebuilt : List Text → Expr (Unit {0}) → Shape
rebuilt [] e = shape e
rebuilt (x ∷ xs) e = got (rebuilt xs e) x

abbrev whole : Spine → Shape
whole p = rebuilt p.0 p.1

abbrev is_access : Shape → Bool
is_access (get_attr d s x) = true
is_access s = false

abbrev expr : Unit {0} → Option Loc → ExprKind (Unit {0}) → Expr (Unit {0})
expr a l k = record { annotation = a; loc = l; kind = k }

abbrev layer : ExprKind (Unit {0}) → Shape
layer k = layers.layer (Unit {0}) (Unit {0}) (λ _ _ _. tt) k (λ _. tt)

shape_is_layer : (a : Unit {0}) (l : Option Loc) (k : ExprKind (Unit {0})) → shape (expr a l k) ≡ layer k
shape_is_layer a l k =
    layers.seen_by_form (Unit {0}) (Unit {0}) (λ _ _ _. tt) (expr a l k)
    ∙ layers.is_layer (Unit {0}) (Unit {0}) (λ _ _ _. tt) k (λ _. tt)

-- the end of a spine is no access
ends : (a : Unit {0}) (l : Option Loc) (k : ExprKind (Unit {0})) → is_access (shape (spine_of a l k).1) ≡ false
ends a l (K.GetAttr' p1 a1 l1 k1 x) = ends a1 l1 k1
ends a l k = ap is_access (shape_is_layer a l k)

whole_is : (a : Unit {0}) (l : Option Loc) (k : ExprKind (Unit {0})) → shape (expr a l k) ≡ whole (spine_of a l k)
whole_is a l (K.GetAttr' p1 a1 l1 k1 x) = shape_is_layer a l (K.GetAttr' p1 a1 l1 k1 x) ∙ ap (λ s. got s (text_of x)) (whole_is a1 l1 k1)
whole_is a l k = refl

pushed : (xs : List Text) (p : Spine) → whole (fold push p xs) ≡ fold got (whole p) xs
pushed [] p = refl
pushed (x ∷ xs) p = pushed xs (push p x)

same_end : (xs : List Text) (p : Spine) → (fold push p xs).1 ≡ p.1
same_end [] p = refl
same_end (x ∷ xs) p = same_end xs (push p x)

-- ---- the order ties if the shapes are equal

no_access : (s t : Shape) (x : Text) → is_access s ≡ false → tree_eq s (got t x) ≡ false
no_access (get_attr d s y) t x h = absurd (true≢false h)
no_access s t x h = refl

access_not : (s t : Shape) (x : Text) → is_access s ≡ false → tree_eq (got t x) s ≡ false
access_not (get_attr d s y) t x h = absurd (true≢false h)
access_not s t x h = refl

and_true : (b : Bool) → (b && true) ≡ b
and_true true = refl
and_true false = refl

and_false : (b : Bool) → (b && false) ≡ false
and_false true = refl
and_false false = refl

-- the last attributes decide first
last_first : (t l b : Ordering) → (is_eq (ordering_then l b) && is_eq t) ≡ is_eq (ordering_then (ordering_then t l) b)
last_first Less l b = and_false (is_eq (ordering_then l b))
last_first Equal l b = and_true (is_eq (ordering_then l b))
last_first Greater l b = and_false (is_eq (ordering_then l b))

bottom_ties : (e f : Expr (Unit {0})) → tree_eq (shape e) (shape f) ≡ is_eq (bottom_cmp e f)
unfolding bottom_cmp
bottom_ties e f = sym (expr_is unit e f) ∙ expr_ord_laws.matches_eq-law unit e f

spine_ties : (xs ys : List Text) (e f : Expr (Unit {0})) → is_access (shape e) ≡ false → is_access (shape f) ≡ false
    → tree_eq (rebuilt xs e) (rebuilt ys f) ≡ is_eq (spine_cmp (xs, e) (ys, f))
spine_ties [] [] e f h k = bottom_ties e f
spine_ties [] (y ∷ ys) e f h k = no_access (shape e) (rebuilt ys f) y h
spine_ties (x ∷ xs) [] e f h k = access_not (shape f) (rebuilt xs e) x k
spine_ties (x ∷ xs) (y ∷ ys) e f h k =
    (λ i. spine_ties xs ys e f h k i && texts_ties x y i)
    ∙ last_first (text_cmp x y) (slice_cmp text_cmp xs ys) (bottom_cmp e f)

-- an owner has the shape of its spine
shape_on_is : (a : Owner) → shape_on a ≡ whole (spine_on a)
shape_on_is (Owner.Lent a) =
    (λ i. fold got (whole_is a.base.now.annotation a.base.now.loc a.base.now.kind i) (texts_at a))
    ∙ sym (pushed (texts_at a) (spine a.base.now))
shape_on_is (Owner.Made e) = whole_is e.annotation e.loc e.kind

ends_on : (a : Owner) → is_access (shape (spine_on a).1) ≡ false
ends_on (Owner.Lent a) =
    ap (λ e. is_access (shape e)) (same_end (texts_at a) (spine a.base.now)) ∙ ends a.base.now.annotation a.base.now.loc a.base.now.kind
ends_on (Owner.Made e) = ends e.annotation e.loc e.kind

-- the order calls owners equal exactly if `==` calls them equal
pub owner_cmp_ties : (a b : Owner) → owner_eq a b ≡ is_eq (owner_cmp a b)
unfolding owner_cmp
owner_cmp_ties a b =
    (λ i. tree_eq (shape_on_is a i) (shape_on_is b i))
    ∙ spine_ties (spine_on a).0 (spine_on b).0 (spine_on a).1 (spine_on b).1 (ends_on a) (ends_on b)
