-- The test for equal types, to and from equality.
use Rattle.std.proofs.Common.{◌≡◌, ap, subst, true}
use Rattle.std.specs.Prelude.{Some, option_map}
use Rattle.cedar_types.proofs.Comparisons.SameTypes.{ty_to, ty_itself}
use Rattle.cedar_types.specs.Types.Bounds.{ty_eq}
use Rattle.cedar_types.specs.Types.{Ty}
use Rattle.cedar_types.specs.Names.{type_of}
use Rattle.cedar_types.specs.Environments.RequestEnvs.{env_of, principal_in, resource_in, principal_ty, resource_ty}
use Rattle.cedar_types.specs.declared.types.request_env.RequestEnv.{RequestEnv}
use Rattle.cedar_types.specs.declared.types.request_env.RequestEnv.TheVariants.{DeclaredAction, UndeclaredAction}
use Rattle.cedar_typing.specs.Rules.Leaves.{linked_ty}

pub kept : {s t : Ty} → s ≡ t → ty_eq s t ≡ true
kept {s = s} e = subst (λ t. ty_eq s t ≡ true) e (ty_itself s)

-- the type of the principal if it is known, else any entity
pub kept_principal : {t : Ty} (e : RequestEnv) → t ≡ linked_ty (option_map (λ p. type_of p.now) (principal_in e))
    → ty_eq t (principal_ty (env_of e)) ≡ true
kept_principal (DeclaredAction p a r c ps rs) same = kept same
kept_principal UndeclaredAction same = kept same

pub kept_resource : {t : Ty} (e : RequestEnv) → t ≡ linked_ty (option_map (λ p. type_of p.now) (resource_in e))
    → ty_eq t (resource_ty (env_of e)) ≡ true
kept_resource (DeclaredAction p a r c ps rs) same = kept same
kept_resource UndeclaredAction same = kept same

pub some_is_kept : {s t : Ty} → ty_eq s t ≡ true → Some s ≡ Some t
some_is_kept {s = s} {t = t} h = ap Some (ty_to s t h)
