-- Typed expressions as trees: each node has the type that was found, and its place in the text.
use Rattle.std.specs.Prelude.{Option, Some, None}
use Rattle.cedar_types.specs.declared.base.location.Loc.{Loc}
use Rattle.cedar_types.specs.declared.base.expressions.Expr.{Expr}
use Rattle.cedar_types.specs.declared.base.types.CedarType.{CedarType}
use Rattle.cedar_types.specs.Types.{Ty, ty_of}
use Rattle.cedar_types.specs.Expressions.Tree.{Tree, lit, var, slot, unknown, if_then_else, and, or, unary, binary, call, get_attr}
use Rattle.cedar_types.specs.Expressions.Tree.{has_attr, ext_has_attr, like, is_type, set_of, record_of, Shape, map_tree}
use Rattle.cedar_types.specs.Expressions.View.{Written, tree_with}
use Rattle.std.specs.Option.{option_map}

-- a node of a typed expression: the type that was found, if one was, and the node as it was written
pub record Mark : Type 0 where
  pub ty : Option Ty
  pub at : Written

-- an expression as it was written, and a typed expression
abbrev pub Source : Type 0
Source = Tree Written

abbrev pub TypedTree : Type 0
TypedTree = Tree Mark

abbrev pub typed : Ty → Written → Mark
typed t m = record { ty = Some t; at = m }

abbrev pub untyped : Written → Mark
untyped m = record { ty = None; at = m }

-- a node with the type of another node, if that has one
abbrev pub typed_as : Option Ty → Written → Mark
typed_as t m = record { ty = t; at = m }

-- the tree of a typed expression of the program
abbrev pub typed_tree : Expr (Option CedarType) → TypedTree
typed_tree =
    tree_with (λ t l p. record { ty = option_map ty_of t; at = record { place = l; names = p } })

-- the mark at the root
abbrev pub mark_of : {D : Type 0} → Tree D → D
mark_of (lit d x) = d
mark_of (var d x) = d
mark_of (slot d x) = d
mark_of (unknown d n) = d
mark_of (if_then_else d a b c) = d
mark_of (and d a b) = d
mark_of (or d a b) = d
mark_of (unary d o a) = d
mark_of (binary d o a b) = d
mark_of (call d n ts) = d
mark_of (get_attr d a x) = d
mark_of (has_attr d a x) = d
mark_of (ext_has_attr d a x xs) = d
mark_of (like d a p) = d
mark_of (is_type d a n) = d
mark_of (set_of d ts) = d
mark_of (record_of d fs) = d

-- the tree with another mark at its root
abbrev pub with_mark : {D : Type 0} → D → Tree D → Tree D
with_mark d (lit m x) = lit d x
with_mark d (var m x) = var d x
with_mark d (slot m x) = slot d x
with_mark d (unknown m n) = unknown d n
with_mark d (if_then_else m a b c) = if_then_else d a b c
with_mark d (and m a b) = and d a b
with_mark d (or m a b) = or d a b
with_mark d (unary m o a) = unary d o a
with_mark d (binary m o a b) = binary d o a b
with_mark d (call m n ts) = call d n ts
with_mark d (get_attr m a x) = get_attr d a x
with_mark d (has_attr m a x) = has_attr d a x
with_mark d (ext_has_attr m a x xs) = ext_has_attr d a x xs
with_mark d (like m a p) = like d a p
with_mark d (is_type m a n) = is_type d a n
with_mark d (set_of m ts) = set_of d ts
with_mark d (record_of m fs) = record_of d fs

-- the place of an expression
abbrev pub place_of : Source → Option Loc
place_of e = (mark_of e).place

-- the type at the root of a typed expression, if one was found
abbrev pub annotation : TypedTree → Option Ty
annotation e = (mark_of e).ty

-- the typed expression without the type at its root
abbrev pub without_type : TypedTree → TypedTree
without_type e = with_mark (untyped (mark_of e).at) e

-- the typed expression at another place
abbrev pub at_place : Option Loc → TypedTree → TypedTree
at_place l e =
    with_mark
    (record { ty = annotation e; at = record { place = l; names = (mark_of e).at.names } }) e

-- the form of an expression, without places and types
abbrev pub form_of : Source → Shape
form_of = map_tree (λ _. tt)
