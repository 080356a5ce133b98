-- The types of operators, of `like` and of `is` are kept.
use Rattle.std.proofs.Common.{◌≡◌, Bool, true, false, ◌&&◌, not, List, [], ◌∷◌, Option, Some, None, if◌then◌else◌, refl, sym, subst}
use Rattle.std.specs.Prelude.{is_some}
use Rattle.cedar_types.specs.declared.base.location.Loc.{Loc}
use Rattle.cedar_types.specs.declared.base.expressions.operators.BinaryOp.{BinaryOp}
use Rattle.cedar_types.specs.declared.base.expressions.operators.UnaryOp.{UnaryOp}
use Rattle.cedar_types.specs.declared.base.expressions.patterns.PatternElem.{PatternElem}
use Rattle.cedar_types.specs.declared.base.types.BoolType.TheVariants.{AnyBool, True, False}
use Rattle.cedar_types.specs.Names.{Path}
use Rattle.cedar_types.specs.Types.{Ty, TNever, TBool, TEntity, sole}
use Rattle.cedar_types.specs.Expressions.View.{Written}
use Rattle.cedar_types.specs.Schemas.{is_among}
use Rattle.cedar_types.specs.Types.Bounds.{ty_eq, is_never}
use Rattle.cedar_types.specs.Errors.{Finding}
use Rattle.cedar_typing.specs.Capabilities.{Caps}
use Rattle.cedar_typing.specs.Eager.{Decision, gives_unless}
use Rattle.cedar_typing.specs.Rules.Binary.{binary_form}
use Rattle.cedar_typing.specs.Rules.Numbers.{is_comparable, beside_never, compares, comparison_form}
use Rattle.cedar_typing.specs.Rules.Unary.{unary_form, like_form, is_type_of, is_decides, is_form}
use Rattle.cedar_typing.specs.TypeEnv.{TypeEnv}
use Rattle.cedar_typing.specs.TypedExpr.{Source}
use Rattle.cedar_typing.specs.TypeTests.{is_true, is_false}
use Rattle.cedar_typing.proofs.KeptTypes.Eager.{decided_type, KeptForm, KeptIfFailed}
use Rattle.cedar_typing.proofs.KeptTypes.Equality.{equality_kept, contains_kept, contains_several_kept}
use Rattle.cedar_typing.proofs.KeptTypes.Membership.{in_kept, in_failed_kept}
use Rattle.cedar_typing.proofs.KeptTypes.Keeping.{HasKept, IsKeeping, pick}
use Rattle.cedar_typing.proofs.KeptTypes.Tags.{has_tag_kept, get_tag_kept}

-- ---- `<` and `<=`: the type is Bool, whatever is decided

unless_is : (es : List Finding) → decided_type (gives_unless es (TBool AnyBool)) ≡ Some (TBool AnyBool)
unless_is [] = refl
unless_is (e ∷ es) = refl

if_is : (b : Bool) (d d' : Decision) → decided_type d ≡ Some (TBool AnyBool)
    → decided_type d' ≡ Some (TBool AnyBool) → decided_type (if b then d else d') ≡ Some (TBool AnyBool)
if_is true d d' h k = h
if_is false d d' h k = k

pub compares_is : (env : TypeEnv) (l l' : Option Loc) (s t : Ty) → decided_type (compares env l l' s t) ≡ Some (TBool AnyBool)
compares_is env l l' s t =
    if_is (is_never s && is_never t) _ _ refl
    (if_is (is_never s) _ _ (unless_is (beside_never env l' t))
    (if_is (is_never t) _ _ (unless_is (beside_never env l s))
    (if_is (is_comparable env s && ty_eq s t) _ _ refl refl)))

module _ (Kept : Ty → Type 0) (env : TypeEnv) (keeps : IsKeeping Kept env) (m : Written) where
  -- ---- one operand

  pub unary_failed_kept : (o : UnaryOp) → KeptIfFailed Kept (unary_form m o)
  unary_failed_kept UnaryOp.Not = λ t h. h
  unary_failed_kept UnaryOp.Neg = λ t h. h
  unary_failed_kept UnaryOp.IsEmpty = λ t h. h

  pub unary_kept : (o : UnaryOp) → KeptForm Kept (unary_form m o)
  unary_kept UnaryOp.Not [] h = keeps.booleans AnyBool
  unary_kept UnaryOp.Not (None ∷ ts) h = keeps.booleans AnyBool
  unary_kept UnaryOp.Not (Some s ∷ ts) h =
      pick Kept (is_true s) _ _ (keeps.booleans False)
      (pick Kept (is_false s) (TBool True) _ (keeps.booleans True) (keeps.booleans AnyBool))
  unary_kept UnaryOp.Neg ts h = keeps.longs
  unary_kept UnaryOp.IsEmpty ts h = keeps.booleans AnyBool

  pub like_kept : (p : List PatternElem) → KeptForm Kept (like_form m p)
  like_kept p ts h = keeps.booleans AnyBool

  is_type_kept : (n : Path) (ps : List Path) → Kept (is_type_of n ps)
  is_type_kept n ps =
      pick Kept (not (is_among ps n)) (TBool False) _ (keeps.booleans False)
      (pick Kept (is_some (sole ps)) (TBool True) _ (keeps.booleans True) (keeps.booleans AnyBool))

  is_decided : (n : Path) (s : Ty) → HasKept Kept (decided_type (is_decides n (Some s)))
  is_decided n (TEntity ps) = is_type_kept n ps
  is_decided n TNever = keeps.booleans AnyBool
  is_decided n s = keeps.booleans AnyBool

  pub is_kept : (n : Path) → KeptForm Kept (is_form m n)
  is_kept n [] h = keeps.booleans AnyBool
  is_kept n (None ∷ ts) h = keeps.booleans AnyBool
  is_kept n (Some s ∷ ts) h = is_decided n s

  -- ---- two operands

  comparison_kept : (l l' : Option Loc) (o : BinaryOp) → KeptForm Kept (comparison_form env m l l' o)
  comparison_kept l l' o [] h = keeps.booleans AnyBool
  comparison_kept l l' o (None ∷ ts) h = keeps.booleans AnyBool
  comparison_kept l l' o (Some s ∷ []) h = keeps.booleans AnyBool
  comparison_kept l l' o (Some s ∷ None ∷ ts) h = keeps.booleans AnyBool
  comparison_kept l l' o (Some s ∷ Some t ∷ ts) h = subst (HasKept Kept) (sym (compares_is env l l' s t)) (keeps.booleans AnyBool)

  module _ (prior : Caps) (a b : Source) where
    pub binary_kept : (o : BinaryOp) → KeptForm Kept (binary_form env m prior a b o)
    binary_kept BinaryOp.Eq = equality_kept Kept env keeps m a b
    binary_kept BinaryOp.Less = comparison_kept _ _ BinaryOp.Less
    binary_kept BinaryOp.LessEq = comparison_kept _ _ BinaryOp.LessEq
    binary_kept BinaryOp.Add = λ ts h. keeps.longs
    binary_kept BinaryOp.Sub = λ ts h. keeps.longs
    binary_kept BinaryOp.Mul = λ ts h. keeps.longs
    binary_kept BinaryOp.In = in_kept Kept env keeps m a b
    binary_kept BinaryOp.Contains = contains_kept Kept env keeps m
    binary_kept BinaryOp.ContainsAll = contains_several_kept Kept env keeps m BinaryOp.ContainsAll
    binary_kept BinaryOp.ContainsAny = contains_several_kept Kept env keeps m BinaryOp.ContainsAny
    binary_kept BinaryOp.GetTag = get_tag_kept Kept env keeps m prior a b
    binary_kept BinaryOp.HasTag = has_tag_kept Kept env keeps m prior a b

    pub binary_failed_kept : (o : BinaryOp) → KeptIfFailed Kept (binary_form env m prior a b o)
    binary_failed_kept BinaryOp.Eq = λ t h. h
    binary_failed_kept BinaryOp.Less = λ t h. h
    binary_failed_kept BinaryOp.LessEq = λ t h. h
    binary_failed_kept BinaryOp.Add = λ t h. h
    binary_failed_kept BinaryOp.Sub = λ t h. h
    binary_failed_kept BinaryOp.Mul = λ t h. h
    binary_failed_kept BinaryOp.In = in_failed_kept Kept env keeps m a b
    binary_failed_kept BinaryOp.Contains = λ t h. h
    binary_failed_kept BinaryOp.ContainsAll = λ t h. h
    binary_failed_kept BinaryOp.ContainsAny = λ t h. h
    binary_failed_kept BinaryOp.GetTag = λ t h. h
    binary_failed_kept BinaryOp.HasTag = λ t h. h
