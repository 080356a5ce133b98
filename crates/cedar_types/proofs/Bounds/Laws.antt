-- The laws of bounds and subtypes.
use Rattle.std.proofs.Common.{◌≡◌, sym, ap, ◌∙◌, true, true≢false, Option, Some, None}
use Rattle.cedar_types.specs.Types.{Ty}
use Rattle.cedar_types.specs.Types.Bounds.{lub, is_just}
use Rattle.cedar_types.specs.Types.BoundLaws.{BoundIsIdempotent, BoundIsSymmetric, BoundIsUpper, BoundKeepsForm, SubtypingIsReflexive}
use Rattle.cedar_types.specs.Types.BoundLaws.{SubtypingIsTransitive, SubtypeIsByBound}
use Rattle.cedar_types.proofs.Comparisons.SameTypes.{ty_to, ty_itself}
use Rattle.cedar_types.proofs.Bounds.Steps.{lub_same}
use Rattle.cedar_types.proofs.Bounds.Symmetric.{symmetric}
use Rattle.cedar_types.proofs.Bounds.Transitive.{transitive}
use Rattle.cedar_types.proofs.Bounds.Upper.{upper}
use Rattle.cedar_types.proofs.Bounds.WellFormed.{keeps_form}

just_is : (o : Option Ty) (t : Ty) → is_just t o ≡ true → o ≡ Some t
just_is None t e = absurd (true≢false (sym e))
just_is (Some u) t e = ap Some (ty_to u t e)

is_just_of : (o : Option Ty) (t : Ty) → o ≡ Some t → is_just t o ≡ true
is_just_of o t e = ap (is_just t) e ∙ ty_itself t

pub by_bound : SubtypeIsByBound
by_bound m s t = (just_is (lub m s t) t, is_just_of (lub m s t) t)

pub idempotent : BoundIsIdempotent
idempotent m t = lub_same m t

pub bound_symmetric : BoundIsSymmetric
bound_symmetric m s t v w = symmetric m s v t w

pub bound_upper : BoundIsUpper
bound_upper m s t u v w e = (
  (by_bound m s u).1 (upper m s v t u e),
  (by_bound m t u).1 (upper m t w s u (symmetric m t w s v ∙ e)),
)

pub bound_form : BoundKeepsForm
bound_form m s t u v w e = keeps_form m s v t u w e

pub reflexive : SubtypingIsReflexive
reflexive m t = (by_bound m t t).1 (lub_same m t)

pub subtyping_transitive : SubtypingIsTransitive
subtyping_transitive m s t u v w x e f = (by_bound m s u).1 (transitive m s v t u w x ((by_bound m s t).0 e) ((by_bound m t u).0 f))
