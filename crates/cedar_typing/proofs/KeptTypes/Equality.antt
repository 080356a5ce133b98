-- Each type of `==`, `contains`, `containsAll` and `containsAny` is kept, because it is a Bool.
use Rattle.std.proofs.Common.{◌≡◌, Bool, true, false, List, [], ◌∷◌, Option, Some, None, if◌then◌else◌, refl, sym, subst}
use Rattle.cedar_types.specs.declared.base.location.Loc.{Loc}
use Rattle.cedar_types.specs.declared.base.expressions.operators.BinaryOp.{BinaryOp}
use Rattle.cedar_types.specs.declared.base.errors.type_errors.LubContext.TheVariants.{Equality, Contains, ContainsAnyAll}
use Rattle.cedar_types.specs.declared.base.types.BoolType.TheVariants.{AnyBool, False}
use Rattle.cedar_types.specs.Types.{Ty, TBool}
use Rattle.cedar_types.specs.Expressions.Tree.{Lit}
use Rattle.cedar_types.specs.Expressions.TreeEq.{lit_eq}
use Rattle.cedar_types.specs.Expressions.View.{Written}
use Rattle.cedar_types.specs.Errors.{Finding}
use Rattle.cedar_typing.specs.Capabilities.{no_caps}
use Rattle.cedar_typing.specs.Eager.{gives, gives_unless, first_type, second_type}
use Rattle.cedar_typing.specs.TypeTests.Joins.{strict_errors}
use Rattle.cedar_typing.specs.Rules.Equality.{literal_of, compared_literals, are_apart, equality_type, equality_decides, equality_form}
use Rattle.cedar_typing.specs.Rules.Equality.{member_type, contains_form, contains_several_form}
use Rattle.cedar_typing.specs.TypeEnv.{TypeEnv}
use Rattle.cedar_typing.specs.TypeTests.{is_any_bool}
use Rattle.cedar_typing.specs.TypedExpr.{Source}
use Rattle.cedar_typing.proofs.KeptTypes.Eager.{decided_type, KeptForm}
use Rattle.cedar_typing.proofs.KeptTypes.Keeping.{HasKept, IsKeeping, truth_value_kept}

-- ---- the type does not depend on errors

pub given_type : (fs : List Finding) (u : Ty) → decided_type (gives_unless fs u) ≡ Some u
given_type [] u = refl
given_type (f ∷ fs) u = refl

given_if : (any_bool : Bool) (fs : List Finding) (u : Ty) → decided_type (if any_bool then gives_unless fs u else gives u no_caps) ≡ Some u
given_if true fs u = given_type fs u
given_if false fs u = refl

pub equality_given : (env : TypeEnv) (l : Option Loc) (u : Ty) (s t : Option Ty) → decided_type (equality_decides env l u s t) ≡ Some u
equality_given env l u s t = given_if (is_any_bool u) (strict_errors env l Equality s t) u

-- ---- `==`

module _ (Kept : Ty → Type 0) (env : TypeEnv) (keeps : IsKeeping Kept env) (m : Written) where
  compared_kept : (x y : Option Lit) → Kept (compared_literals x y)
  compared_kept None y = keeps.booleans AnyBool
  compared_kept (Some x) None = keeps.booleans AnyBool
  compared_kept (Some x) (Some y) = truth_value_kept Kept env keeps (lit_eq x y)

  apart_kept : (apart : Bool) (x y : Option Lit) → Kept (if apart then TBool False else compared_literals x y)
  apart_kept true x y = keeps.booleans False
  apart_kept false x y = compared_kept x y

  pub equality_kept : (a b : Source) → KeptForm Kept (equality_form env m a b)
  equality_kept a b ts h =
      let x = literal_of env.request_env a in
      let y = literal_of env.request_env b in
      let s = first_type ts in
      let t = second_type ts in
      subst (HasKept Kept) (sym (equality_given env m.place (equality_type x y s t) s t)) (apart_kept (are_apart s t) x y)

  -- ---- sets and their members

  given_kept : (fs : List Finding) → HasKept Kept (decided_type (gives_unless fs (TBool AnyBool)))
  given_kept fs = subst (HasKept Kept) (sym (given_type fs (TBool AnyBool))) (keeps.booleans AnyBool)

  pub contains_kept : KeptForm Kept (contains_form env m)
  contains_kept ts h = given_kept (strict_errors env m.place Contains (member_type (first_type ts)) (second_type ts))

  pub contains_several_kept : (o : BinaryOp) → KeptForm Kept (contains_several_form env m o)
  contains_several_kept o ts h = given_kept (strict_errors env m.place ContainsAnyAll (first_type ts) (second_type ts))
