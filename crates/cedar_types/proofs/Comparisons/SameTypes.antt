-- The test of equality of plain types decides equality.
use Rattle.std.proofs.Common.{◌≡◌, refl, sym, ap, arith, Bool, true, ◌&&◌, List, true≢false}
use Rattle.std.specs.Bool.{Decides}
use Rattle.std.specs.Cmp.Lexicographic.{pointwise}
use Rattle.cedar_types.specs.declared.base.types.BoolType.{BoolType}
use Rattle.cedar_types.specs.Names.{Text, Path, text_eq, path_eq}
use Rattle.cedar_types.specs.Types.{Ty, TNever, TBool, TLong, TString, TSet, TAnySet, TRecord, TEntity, TAnyEntity, TExtension, Attrs}
use Rattle.cedar_types.specs.Types.{no_attrs, attr}
use Rattle.cedar_types.specs.Types.Bounds.{kind_eq, mark_eq, ty_eq, attrs_eq}
pub use Rattle.cedar_types.specs.Lemmas.Comparisons.{and_left, and_right, and_both}
use Rattle.cedar_types.specs.Lemmas.Comparisons.{Same, list_same, text_same, path_same}
use Rattle.cedar_types.specs.Lemmas.Decided.{decides, of_two}

pub text_decides : (a b : Text) → Decides (text_eq a b) (a ≡ b)
text_decides = decides text_same

pub text_itself : (a : Text) → text_eq a a ≡ true
text_itself = text_same.itself

pub path_to : (p q : Path) → path_eq p q ≡ true → p ≡ q
path_to = path_same.to

pub path_itself : (p : Path) → path_eq p p ≡ true
path_itself = path_same.itself

pub path_decides : (p q : Path) → Decides (path_eq p q) (p ≡ q)
path_decides = decides path_same

pub paths_decide : (ps qs : List Path) → Decides (pointwise path_eq ps qs) (ps ≡ qs)
paths_decide = decides (list_same path_same)

kind_to : (j k : BoolType) → kind_eq j k ≡ true → j ≡ k
kind_to j k h = grind arith

pub kind_itself : (k : BoolType) → kind_eq k k ≡ true
kind_itself k = grind arith

pub mark_to : (a b : Bool) → mark_eq a b ≡ true → a ≡ b
mark_to a b h = grind arith

pub mark_itself : (a : Bool) → mark_eq a a ≡ true
mark_itself a = grind arith

mutual
  pub ty_to : (s t : Ty) → ty_eq s t ≡ true → s ≡ t
  ty_to TNever TNever h = refl
  ty_to (TBool j) (TBool k) h = ap TBool (kind_to j k h)
  ty_to TLong TLong h = refl
  ty_to TString TString h = refl
  ty_to (TSet s) (TSet t) h = ap TSet (ty_to s t h)
  ty_to TAnySet TAnySet h = refl
  ty_to (TRecord xs o) (TRecord ys p) h = of_two TRecord (attrs_to xs ys) (mark_to o p) h
  ty_to (TEntity ps) (TEntity qs) h = ap TEntity ((paths_decide ps qs).0 h)
  ty_to TAnyEntity TAnyEntity h = refl
  ty_to (TExtension m) (TExtension n) h = ap TExtension (path_to m n h)
  ty_to s t h = absurd (true≢false (sym h))

  pub attrs_to : (xs ys : Attrs) → attrs_eq xs ys ≡ true → xs ≡ ys
  attrs_to no_attrs no_attrs h = refl
  attrs_to (attr k s r xs) (attr l t q ys) h =
      let head = and_left (text_eq k l && (ty_eq s t && mark_eq r q)) (attrs_eq xs ys) h in
      let both = and_right (text_eq k l) (ty_eq s t && mark_eq r q) head in
      λ i. attr ((text_decides k l).0 (and_left (text_eq k l) (ty_eq s t && mark_eq r q) head) i)
      (ty_to s t (and_left (ty_eq s t) (mark_eq r q) both) i)
      (mark_to r q (and_right (ty_eq s t) (mark_eq r q) both) i)
      (attrs_to xs ys (and_right (text_eq k l && (ty_eq s t && mark_eq r q)) (attrs_eq xs ys) h) i)
  attrs_to xs ys h = absurd (true≢false (sym h))

mutual
  pub ty_itself : (t : Ty) → ty_eq t t ≡ true
  ty_itself TNever = refl
  ty_itself (TBool k) = kind_itself k
  ty_itself TLong = refl
  ty_itself TString = refl
  ty_itself (TSet t) = ty_itself t
  ty_itself TAnySet = refl
  ty_itself (TRecord xs o) = and_both (attrs_eq xs xs) (mark_eq o o) (attrs_itself xs) (mark_itself o)
  ty_itself (TEntity ps) = (paths_decide ps ps).1 refl
  ty_itself TAnyEntity = refl
  ty_itself (TExtension n) = path_itself n

  pub attrs_itself : (xs : Attrs) → attrs_eq xs xs ≡ true
  attrs_itself no_attrs = refl
  attrs_itself (attr k t r xs) =
      and_both (text_eq k k && (ty_eq t t && mark_eq r r)) (attrs_eq xs xs)
      (and_both (text_eq k k) (ty_eq t t && mark_eq r r) (text_itself k)
      (and_both (ty_eq t t) (mark_eq r r) (ty_itself t) (mark_itself r))) (attrs_itself xs)

pub ty_same : Same ty_eq
ty_same = record { to = ty_to; itself = ty_itself }

pub ty_decides : (s t : Ty) → Decides (ty_eq s t) (s ≡ t)
ty_decides = decides ty_same
