-- Expressions as the accesses that end them, and the expression under these accesses.
use Rattle.std.specs.Prelude.{Bool, List, [], ◌∷◌, ◌++◌, Option, None, Some, option_map, map}
use Rattle.std.specs.Cmp.Lexicographic.{slice_cmp}
use Rattle.std.specs.List.{fold}
use Rattle.std.specs.Ordering.{ordering_then}
use Rattle.std.specs.declared.cmp.Ordering.{Ordering}
use denote.Builtin.{unit}
use Rattle.cedar_types.specs.declared.base.location.Loc.{Loc}
use Rattle.cedar_types.specs.declared.base.expressions.Expr.{Expr}
use Rattle.cedar_types.specs.declared.base.expressions.ExprKind.{ExprKind}
use Rattle.cedar_types.specs.declared.base.expressions.ExprKind.TheVariants as K
use Rattle.cedar_types.specs.declared.types.capability.accesses.Accesses.{Accesses}
use Rattle.cedar_types.specs.declared.types.capability.owners.Owner.{Owner}
use Rattle.cedar_types.specs.contracts.base.expressions.ExprOrd.TheImpl as expr_ord
use Rattle.cedar_types.specs.Names.{Text, text_of, text_cmp}
use Rattle.cedar_types.specs.Expressions.Tree.{Shape, get_attr}
use Rattle.cedar_types.specs.Expressions.TreeEq.{tree_eq}
use Rattle.cedar_types.specs.Expressions.View.{shape}

abbrev pub at_most_one : {A : Type 0} → Option A → List A
at_most_one None = []
at_most_one (Some x) = x ∷ []

-- the attributes, from the first to the last
abbrev pub texts_at : Accesses → List Text
texts_at a = at_most_one (option_map (λ x. text_of x.now) a.first) ++ map text_of a.rest.now

-- the shape of an access to attribute x of shape s
abbrev pub got : Shape → Text → Shape
got s x = get_attr tt s x

abbrev pub shape_at : Accesses → Shape
shape_at a = fold got (shape a.base.now) (texts_at a)

-- an expression's spine: the attributes of the accesses that end it, the last first, and the
-- expression under them, which is no access
abbrev pub Spine : Type 0
Spine = List Text × Expr (Unit {0})

abbrev pub push : Spine → Text → Spine
push p x = (x ∷ p.0, p.1)

abbrev pub spine_of : Unit {0} → Option Loc → ExprKind (Unit {0}) → Spine
spine_of a l (K.GetAttr' p1 a1 l1 k1 x) = push (spine_of a1 l1 k1) (text_of x)
spine_of a l k = ([], record { annotation = a; loc = l; kind = k })

abbrev pub spine : Expr (Unit {0}) → Spine
spine e = spine_of e.annotation e.loc e.kind

abbrev pub spine_at : Accesses → Spine
spine_at a = fold push (spine a.base.now) (texts_at a)

-- an order: the attributes from the last to the first, and then the expressions under them
unfoldable pub bottom_cmp : Expr (Unit {0}) → Expr (Unit {0}) → Ordering
bottom_cmp = (expr_ord.ghosts unit).cmp

abbrev pub spine_cmp : Spine → Spine → Ordering
spine_cmp p q = ordering_then (slice_cmp text_cmp p.0 q.0) (bottom_cmp p.1 q.1)

-- ---- the owner of an attribute or a tag

abbrev pub shape_on : Owner → Shape
shape_on (Owner.Lent a) = shape_at a
shape_on (Owner.Made e) = shape e

abbrev pub spine_on : Owner → Spine
spine_on (Owner.Lent a) = spine_at a
spine_on (Owner.Made e) = spine e

-- owners are equal if they have one shape
abbrev pub owner_eq : Owner → Owner → Bool
owner_eq a b = tree_eq (shape_on a) (shape_on b)

-- a total order of shapes; no caller may ask which order it is
unfoldable pub owner_cmp : Owner → Owner → Ordering
owner_cmp a b = spine_cmp (spine_on a) (spine_on b)
