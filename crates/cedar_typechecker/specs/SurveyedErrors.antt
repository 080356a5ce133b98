-- The environments in which an error occurs, and the listing of them that a survey keeps.
use Rattle.std.specs.Prelude.{◌≡◌, List, [], ◌∷◌, ◌++◌, map, length, take, Option, None, Some, option_map, IsSome}
use Rattle.cedar_types.specs.Environments.RequestEnvs.{Env, Declared, Undeclared}
use Rattle.cedar_types.specs.Errors.{Finding}
use Rattle.cedar_types.specs.Names.{Path, Uid, type_of, uid_of}
use Rattle.cedar_typing.specs.Evaluation.Conformance.{IsOneOf}
use Rattle.cedar_typing.specs.PolicyCheck.{Verdict}
use Rattle.cedar_typing.specs.PolicyCheck.Outcome.{errors_in}
use Rattle.cedar_typechecker.specs.declared.survey.environments.Environment.{Environment}
use Rattle.cedar_typechecker.specs.declared.survey.environments.Environments.{Environments}
use Rattle.cedar_typechecker.specs.Levels.Demands.{capped}

-- ---- an environment

-- the requests of an environment: a principal's type, an action, a resource's type
pub record Request : Type 0 where
  pub principal : Path
  pub action : Uid
  pub resource : Path

pub record About : Type 0 where
  pub request : Option Request
  pub principal_slot : Option Path
  pub resource_slot : Option Path

abbrev pub about_env : Env → About
about_env (Declared d ps rs) = record {
  request = Some (record { principal = d.principal; action = d.action; resource = d.resource });
  principal_slot = ps;
  resource_slot = rs;
}
about_env Undeclared = record { request = None; principal_slot = None; resource_slot = None }

abbrev pub about : Environment → About
about e = record {
  request = option_map
      (λ t. record { principal = type_of t.principal; action = uid_of t.action; resource = type_of t.resource })
      e.request;
  principal_slot = option_map type_of e.principal_slot;
  resource_slot = option_map type_of e.resource_slot;
}

-- ---- the environments of an error

-- own are the environments in whose verdicts the error is, in the order in which they were checked;
-- envs has the last one first
pub data IsFoundIn (e : Finding) : List Env → List Verdict → List Env → Type 0 where
  nowhere : IsFoundIn e [] [] []
  here : {env : Env} {envs : List Env} {v : Verdict} {vs : List Verdict} {own : List Env}
      → IsOneOf e (errors_in v) → IsFoundIn e envs vs own
      → IsFoundIn e (env ∷ envs) (v ∷ vs) (own ++ env ∷ [])
  elsewhere : {env : Env} {envs : List Env} {v : Verdict} {vs : List Verdict} {own : List Env}
      → (IsOneOf e (errors_in v) → ⊥) → IsFoundIn e envs vs own
      → IsFoundIn e (env ∷ envs) (v ∷ vs) own

-- a listing of some environments: their number, and the first five
pub record IsListing (own : List Env) (o : Environments) : Type 0 where
  pub count : o.count ≡ capped (length own)
  pub first : map about o.listed.items ≡ map about_env (take 5 own)

-- a listing is kept exactly if there is an environment
abbrev pub IsListingIfAny : List Env → Option Environments → Type 0
IsListingIfAny own None = own ≡ []
IsListingIfAny own (Some o) = IsListing own o × (own ≡ [] → ⊥)

-- the listing of the environments of an error
abbrev pub HasEnvironments : Finding → List Env → List Verdict → Option Environments → Type 0
HasEnvironments e envs vs o = (own : List Env) × IsFoundIn e envs vs own × IsListingIfAny own o

-- the listing of an error gains an environment in which the errors es are found, if the error is
-- one of these
pub record AddsEnvironment (env : Env) (es : List Finding) (e : Finding)
    (old new : Option Environments) : Type 0 where
  pub gained : IsOneOf e es → (own : List Env) → IsListingIfAny own old
      → IsListingIfAny (own ++ env ∷ []) new
  pub there : IsOneOf e es → IsSome new
  pub kept : (IsOneOf e es → ⊥) → new ≡ old
