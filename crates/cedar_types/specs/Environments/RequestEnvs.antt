-- The environments that typing works in: the subject of a request, and the types that its slots are
-- bound to.
use Rattle.std.specs.Prelude.{◌≡◌, Bool, true, false, cond, List, [], ◌∷◌, ◌++◌, map, Option, Some, None, option_map, if◌then◌else◌}
use Rattle.std.specs.Borrow.{Bor}
use Rattle.cedar_types.specs.Names.{Path, PlacedType, PlacedUid, type_of, uid_of, placed_type, placed_uid}
use Rattle.cedar_types.specs.Types.{Ty, TRecord, TEntity, TAnyEntity, no_attrs, ty_of}
use Rattle.cedar_types.specs.Expressions.TreeEq.{slot_eq}
use Rattle.cedar_types.specs.Schemas.{Schema}
use Rattle.cedar_types.specs.Types.Lookups.{literal_type}
use Rattle.cedar_types.specs.Environments.{DeclaredEnv, declared_env, environments_of}
use Rattle.cedar_types.specs.declared.base.names.entities.EntityType.{EntityType}
use Rattle.cedar_types.specs.declared.base.names.entities.EntityUID.{EntityUID}
use Rattle.cedar_types.specs.declared.base.names.slots.SlotId.{SlotId}
use Rattle.cedar_types.specs.declared.base.types.RequestType.{RequestType}
use Rattle.cedar_types.specs.declared.base.types.ValidationMode.{ValidationMode}
use Rattle.cedar_types.specs.declared.base.types.ValidationMode.TheVariants.{Strict, Permissive, Partial}
use Rattle.cedar_types.specs.declared.types.request_env.RequestEnv.{RequestEnv}
use Rattle.cedar_types.specs.declared.types.request_env.RequestEnv.TheVariants.{DeclaredAction, UndeclaredAction}
use Rattle.cedar_types.specs.declared.types.unlinked_envs.UnlinkedRequestEnvs.{UnlinkedRequestEnvs}

-- an environment: a declared one with the types of its principal slot and of its resource slot, or
-- the one of all undeclared actions
pub data Env : Type 0 where
  Declared : DeclaredEnv → Option Path → Option Path → Env
  Undeclared : Env

abbrev pub env_of : RequestEnv → Env
env_of (DeclaredAction p a r c ps rs) =
    Declared
    (record {
      principal = type_of p.now;
      action = uid_of a.now;
      resource = type_of r.now;
      context = ty_of c.now;
    })
    (option_map type_of ps) (option_map type_of rs)
env_of UndeclaredAction = Undeclared

-- ---- the parts of an environment; an undeclared action has none

abbrev pub principal_in : RequestEnv → Option (Bor EntityType)
principal_in (DeclaredAction p a r c ps rs) = Some p
principal_in UndeclaredAction = None

abbrev pub action_in : RequestEnv → Option (Bor EntityUID)
action_in (DeclaredAction p a r c ps rs) = Some a
action_in UndeclaredAction = None

abbrev pub resource_in : RequestEnv → Option (Bor EntityType)
resource_in (DeclaredAction p a r c ps rs) = Some r
resource_in UndeclaredAction = None

abbrev pub principal_slot_in : RequestEnv → Option EntityType
principal_slot_in (DeclaredAction p a r c ps rs) = ps
principal_slot_in UndeclaredAction = None

abbrev pub resource_slot_in : RequestEnv → Option EntityType
resource_slot_in (DeclaredAction p a r c ps rs) = rs
resource_slot_in UndeclaredAction = None

-- the subject of an environment's requests: two types and an id, each with its place
pub record PlacedRequest : Type 0 where
  pub principal : PlacedType
  pub action : PlacedUid
  pub resource : PlacedType

abbrev pub placed_request : RequestType → PlacedRequest
placed_request t = record {
  principal = placed_type t.principal;
  action = placed_uid t.action;
  resource = placed_type t.resource;
}

abbrev pub request_in : RequestEnv → Option PlacedRequest
request_in (DeclaredAction p a r c ps rs) = Some (record {
  principal = placed_type p.now;
  action = placed_uid a.now;
  resource = placed_type r.now;
})
request_in UndeclaredAction = None

-- ---- the types of the variables

-- an undeclared action's principal is any entity
abbrev pub principal_ty : Env → Ty
principal_ty (Declared d ps rs) = TEntity (d.principal ∷ [])
principal_ty Undeclared = TAnyEntity

abbrev pub resource_ty : Env → Ty
resource_ty (Declared d ps rs) = TEntity (d.resource ∷ [])
resource_ty Undeclared = TAnyEntity

-- an action has the type of its literal; only a declared action has one
abbrev pub action_ty : Schema → Env → Option Ty
action_ty s (Declared d ps rs) = literal_type s d.action
action_ty s Undeclared = Some TAnyEntity

-- an undeclared action's context is any record
abbrev pub context_ty : Env → Ty
context_ty (Declared d ps rs) = d.context
context_ty Undeclared = TRecord no_attrs true

-- ---- linking

-- linking replaces both slot types, and nothing else
abbrev pub linked : RequestEnv → Option EntityType → Option EntityType → RequestEnv
linked (DeclaredAction p a r c ps rs) ps' rs' = DeclaredAction p a r c ps' rs'
linked UndeclaredAction ps' rs' = UndeclaredAction

-- the entity that a slot is bound to
abbrev pub bound_to : SlotId → List (SlotId × EntityUID) → Option EntityUID
bound_to s [] = None
bound_to s (e ∷ es) = if slot_eq s e.0 then Some e.1 else bound_to s es

-- the type of the entity that a slot is bound to, as it was written
abbrev pub bound_type : SlotId → List (SlotId × EntityUID) → Option PlacedType
bound_type s es = option_map (λ u. placed_type u.entity_type) (bound_to s es)

-- f is e, linked to the types of the entities that both slots are bound to
pub record IsLinkedTo (bindings : List (SlotId × EntityUID)) (e f : RequestEnv) : Type 0 where
  pub principal : Option EntityType
  pub resource : Option EntityType
  pub replaced : f ≡ linked e principal resource
  pub principal_is : option_map placed_type principal ≡ bound_type SlotId.Principal bindings
  pub resource_is : option_map placed_type resource ≡ bound_type SlotId.Resource bindings

-- ---- the environments of a schema

-- a declared environment, before its slots are linked
abbrev pub unlinked : DeclaredEnv → Env
unlinked d = Declared d None None

-- undeclared actions count in Partial alone
abbrev pub is_partial : ValidationMode → Bool
is_partial Strict = false
is_partial Permissive = false
is_partial Partial = true

abbrev pub undeclared_envs : Bool → List Env
undeclared_envs b = cond b (Undeclared ∷ []) []

-- the declared environments, and in Partial the undeclared one, once
abbrev pub unlinked_envs : Schema → ValidationMode → List Env
unlinked_envs s m = map unlinked (environments_of s.actions) ++ undeclared_envs (is_partial m)

-- the environments that are still to come
unfoldable pub envs_left : UnlinkedRequestEnvs → List Env
envs_left s = map (λ e. unlinked (declared_env e)) s.declared.now ++ undeclared_envs s.undeclared
