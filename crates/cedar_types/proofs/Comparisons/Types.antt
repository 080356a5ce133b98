-- Equality of types in the program is equality of plain types: both are ties of the order of types.
use Rattle.std.proofs.Common.{◌≡◌, refl, sym, ap, ◌∙◌, arith, Bool, ◌&&◌}
use Rattle.std.specs.Ordering.{nat_cmp, ordering_then, is_eq}
use Rattle.std.specs.Cmp.Lexicographic.{texts_ties, lists_ties}
use Rattle.std.specs.declared.cmp.Ordering.{Ordering}
use Rattle.cedar_types.specs.declared.base.types.BoolType.{BoolType}
use Rattle.cedar_types.specs.declared.base.types.CedarType.{CedarType}
use Rattle.cedar_types.specs.contracts.base.types.CedarTypePartialEq.TheImpl as ty_impl
use Rattle.cedar_types.specs.contracts.base.types.CedarTypeOrd.TheImpl.Laws as order_laws
use Rattle.cedar_types.specs.Names.{text_cmp, path_cmp}
use Rattle.cedar_types.specs.Types.{Ty, TNever, TBool, TLong, TString, TSet, TAnySet, TRecord, TEntity, TAnyEntity, TExtension, Attrs}
use Rattle.cedar_types.specs.Types.{no_attrs, attr, ty_of}
use Rattle.cedar_types.specs.Types.Bounds.{kind_eq, mark_eq, ty_eq, attrs_eq}
use Rattle.cedar_types.specs.Types.Order.{bool_rank, open_rank, required_rank, ty_cmp, attrs_cmp}
use Rattle.cedar_types.proofs.Names.Paths.{tied_then, path_ties}
use Rattle.cedar_types.proofs.Comparisons.TypeOrder.{types_order}

kind_ties : (j k : BoolType) → kind_eq j k ≡ is_eq (nat_cmp (bool_rank j) (bool_rank k))
kind_ties j k = grind arith

open_ties : (o p : Bool) → mark_eq o p ≡ is_eq (nat_cmp (open_rank o) (open_rank p))
open_ties o p = grind arith

required_ties : (r q : Bool) → mark_eq r q ≡ is_eq (nat_cmp (required_rank r) (required_rank q))
required_ties r q = grind arith

-- Two tests of a tie hold together exactly if the two orders tie one after the other
both_tie : {a b : Bool} (o p : Ordering) → a ≡ is_eq o → b ≡ is_eq p → (a && b) ≡ is_eq (ordering_then o p)
both_tie o p e f = (λ i. e i && f i) ∙ tied_then o p

mutual
  -- Types are equal exactly if their order ties them
  pub ty_ties : (s t : Ty) → ty_eq s t ≡ is_eq (ty_cmp s t)
  ty_ties (TBool j) (TBool k) = kind_ties j k
  ty_ties (TSet s) (TSet t) = ty_ties s t
  ty_ties (TRecord xs o) (TRecord ys p) =
      both_tie (attrs_cmp xs ys) (nat_cmp (open_rank o) (open_rank p)) (attrs_ties xs ys) (open_ties o p)
  ty_ties (TEntity ps) (TEntity qs) = lists_ties path_cmp path_ties ps qs
  ty_ties (TExtension n) (TExtension m) = path_ties n m
  -- Types without parts
  ty_ties TNever TNever = refl
  ty_ties TLong TLong = refl
  ty_ties TString TString = refl
  ty_ties TAnySet TAnySet = refl
  ty_ties TAnyEntity TAnyEntity = refl
  ty_ties s t = refl

  attrs_ties : (xs ys : Attrs) → attrs_eq xs ys ≡ is_eq (attrs_cmp xs ys)
  attrs_ties (attr k s r xs) (attr l t q ys) =
      let marks = nat_cmp (required_rank r) (required_rank q) in
      both_tie (ordering_then (text_cmp k l) (ordering_then (ty_cmp s t) marks)) (attrs_cmp xs ys)
      (both_tie (text_cmp k l) (ordering_then (ty_cmp s t) marks) (texts_ties k l)
      (both_tie (ty_cmp s t) marks (ty_ties s t) (required_ties r q)))
      (attrs_ties xs ys)
  attrs_ties no_attrs no_attrs = refl
  attrs_ties xs ys = refl

-- The test `==` holds exactly if the plain types are equal
pub types_same : (x y : CedarType) → ty_impl.ghosts.eq x y ≡ ty_eq (ty_of x) (ty_of y)
types_same x y = order_laws.matches_eq-law x y ∙ ap is_eq (types_order x y) ∙ sym (ty_ties (ty_of x) (ty_of y))
