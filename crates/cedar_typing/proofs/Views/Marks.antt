-- The mark at a root.
use Rattle.std.proofs.Common.{◌≡◌, refl, ap, Option, None}
use Rattle.cedar_types.specs.declared.base.location.Loc.{Loc}
use Rattle.cedar_types.specs.Expressions.Tree.{Tree, lit, var, slot, unknown, if_then_else, and, or, unary, binary, call, get_attr}
use Rattle.cedar_types.specs.Expressions.Tree.{has_attr, ext_has_attr, like, is_type, set_of, record_of}
use Rattle.cedar_typing.specs.TypedExpr.{TypedTree, Mark, mark_of, with_mark, annotation, without_type, at_place}

pub mark_of-with_mark : {D : Type 0} (d : D) (e : Tree D) → mark_of (with_mark d e) ≡ d
mark_of-with_mark d (lit m x) = refl
mark_of-with_mark d (var m x) = refl
mark_of-with_mark d (slot m x) = refl
mark_of-with_mark d (unknown m n) = refl
mark_of-with_mark d (if_then_else m a b c) = refl
mark_of-with_mark d (and m a b) = refl
mark_of-with_mark d (or m a b) = refl
mark_of-with_mark d (unary m o a) = refl
mark_of-with_mark d (binary m o a b) = refl
mark_of-with_mark d (call m n ts) = refl
mark_of-with_mark d (get_attr m a x) = refl
mark_of-with_mark d (has_attr m a x) = refl
mark_of-with_mark d (ext_has_attr m a x xs) = refl
mark_of-with_mark d (like m a p) = refl
mark_of-with_mark d (is_type m a n) = refl
mark_of-with_mark d (set_of m ts) = refl
mark_of-with_mark d (record_of m fs) = refl

-- the type at the root stays if only the place changes
pub annotation-at_place : (l : Option Loc) (e : TypedTree) → annotation (at_place l e) ≡ annotation e
annotation-at_place l e = ap (λ (k : Mark). k.ty) (mark_of-with_mark _ e)

pub annotation-without_type : (e : TypedTree) → annotation (without_type e) ≡ None
annotation-without_type e = ap (λ (k : Mark). k.ty) (mark_of-with_mark _ e)
