-- Environments whose action the scope does not admit. If the schema alone decides that, their
-- checks are known without typing: irrelevant, without an error, because the test of the action is
-- False; and their demands are known too.
use Rattle.std.specs.Prelude.{◌≡◌, ◌↔◌, Bool, true, false, not, ◌&&◌, ◌||◌, List, [], ◌∷◌, map, Option, Some, None, is_some, if◌then◌else◌}
use Rattle.std.specs.List.{list_all}
use Rattle.cedar_types.specs.declared.base.types.ValidationMode.{ValidationMode}
use Rattle.cedar_types.specs.Environments.Linking.{checked_envs}
use Rattle.cedar_types.specs.Environments.Representatives.{admits, IsLeftOut}
use Rattle.cedar_types.specs.Environments.RequestEnvs.{Env, Declared, Undeclared, is_partial}
use Rattle.cedar_types.specs.Names.{Path, Uid, path_eq}
use Rattle.cedar_types.specs.Schemas.{DeclaredAction, Schema, has_fault, uid_is_among}
use Rattle.cedar_types.specs.Templates.{Reference, to_entity, to_slot, Scope, any, equal, within, typed, typed_within, PlainTemplate, condition_of}
use Rattle.cedar_types.specs.Templates.{ActionScope, any_action, equal_action, within_actions}
use Rattle.cedar_types.specs.Types.Lookups.{declares_entity}
use Rattle.cedar_typing.specs.Composition.{in_env}
use Rattle.cedar_typing.specs.Evaluation.Conformance.{IsOneOf}
use Rattle.cedar_typing.specs.PolicyCheck.{Verdict, irrelevant, PolicyChecks}
use Rattle.cedar_typing.specs.Representatives.{are_named_alike, names_alike}
use Rattle.cedar_typing.specs.Rules.Membership.{is_action}
use Rattle.cedar_typing.specs.Setting.{Setting}
use Rattle.cedar_typing.specs.TypedExpr.{TypedTree}
use Rattle.cedar_typechecker.specs.Levels.Demands.{Demand, this_level, add_demands}
use Rattle.cedar_typechecker.specs.Surveys.{surroundings_at}

-- ---- the actions that the scope admits

abbrev pub are_of_type : Path → List Uid → Bool
are_of_type p = list_all (λ u. path_eq u.entity_type p)

-- all ids are of the type of the first, which is an action type
abbrev pub are_of_one_action_type : List Uid → Bool
are_of_one_action_type [] = false
are_of_one_action_type (u ∷ us) = is_action u && are_of_type u.entity_type (u ∷ us)

-- the ids are those of the actions that the scope admits, and the schema alone decides that
pub record Admits (acts : List DeclaredAction) (a : ActionScope) (us : List Uid) : Type 0 where
  pub alike : names_alike acts a ≡ true
  pub members : (u : Uid) → uid_is_among us u ≡ admits acts a u

-- the scope excludes actions, and the schema alone decides which
abbrev pub is_decided : List DeclaredAction → ActionScope → Bool
is_decided acts any_action = false
is_decided acts (equal_action u) = true
is_decided acts (within_actions us) = are_named_alike acts (map (λ u. u.uid) us)

-- the ids are kept exactly if the schema alone decides
abbrev pub AdmitsIfDecided : List DeclaredAction → ActionScope → Option (List Uid) → Type 0
AdmitsIfDecided acts a None = is_decided acts a ≡ false
AdmitsIfDecided acts a (Some us) = Admits acts a us

-- the environment is of a declared action that is not among these
abbrev pub is_left_out_by : List Uid → Env → Bool
is_left_out_by us (Declared d p r) = not (uid_is_among us d.action)
is_left_out_by us Undeclared = false

abbrev pub is_kept_by : List Uid → Env → Bool
is_kept_by us (Declared d p r) = uid_is_among us d.action
is_kept_by us Undeclared = true

-- a slot is linked, or the action is not declared
abbrev pub has_links : Env → Bool
has_links (Declared d p r) = is_some p || is_some r
has_links Undeclared = true

-- ---- demands of an environment whose action is left out

-- the demand of an `in` of the scope: it stands at the policy's place, and dereferences a variable
abbrev pub in_demand : PlainTemplate → Demand
in_demand t = record { place = t.place; need = this_level 1; hidden_below = 0 }

abbrev pub demands_if : Bool → PlainTemplate → List Demand
demands_if b t = if b then in_demand t ∷ [] else []

abbrev pub lists_actions : ActionScope → Bool
lists_actions any_action = false
lists_actions (equal_action u) = false
lists_actions (within_actions us) = true

-- the principal's constraint has an `in`, or else the action's, as `lists` says
abbrev pub has_in_beside : Bool → Scope → Bool
has_in_beside lists any = lists
has_in_beside lists (equal r) = lists
has_in_beside lists (within r) = true
has_in_beside lists (typed n) = lists
has_in_beside lists (typed_within n r) = true

-- the scope has an `in`
abbrev pub has_in : PlainTemplate → Bool
has_in t = has_in_beside (lists_actions t.action) t.principal

-- an entity's type is found: the schema knows the entity, or the mode takes each for known
abbrev pub has_type : Schema → ValidationMode → Uid → Bool
has_type s m u = declares_entity s u || is_partial m

-- `principal == x` is not False by the types: they are the same, or one was not found
abbrev pub may_equal : Schema → ValidationMode → Reference → Path → Bool
may_equal s m (to_entity u) p = path_eq p u.uid.entity_type || not (has_type s m u.uid)
may_equal s m to_slot p = true

-- typing goes on to an `in` where the principal's type is p: to that of the principal's constraint,
-- or to that of the action's, as `lists` says, if the principal's test is not False
abbrev pub visits_in_beside : Schema → ValidationMode → Bool → Scope → Path → Bool
visits_in_beside s m lists any p = lists
visits_in_beside s m lists (equal r) p = lists && may_equal s m r p
visits_in_beside s m lists (within r) p = true
visits_in_beside s m lists (typed n) p = lists && path_eq n.name p
visits_in_beside s m lists (typed_within n r) p = path_eq n.name p

-- an `in` of the scope is typed where the principal's type is p and the action is left out
abbrev pub visits_in : Schema → ValidationMode → PlainTemplate → Path → Bool
visits_in s m t = visits_in_beside s m (lists_actions t.action) t.principal

abbrev pub visits_in_env : Schema → ValidationMode → PlainTemplate → Env → Bool
visits_in_env s m t (Declared d p r) = visits_in s m t d.principal
visits_in_env s m t Undeclared = false

-- the check is irrelevant, without an error, and its typed condition demands no more than an `in`
-- of the scope
pub record IsQuiet (s : Setting) (t : PlainTemplate) (e : Env) : Type 0 where
  pub copy : TypedTree
  pub verdict : (v : Verdict)
      → PolicyChecks (in_env s e) (condition_of t) v ↔ (v ≡ irrelevant [] copy)
  pub demanded : (d : Demand)
      → IsOneOf d (add_demands (surroundings_at s.env.schema e) copy 0 [])
      ↔ IsOneOf d (demands_if (visits_in_env s.env.schema s.env.mode t e) t)

-- so is each check of a policy where the scope does not admit the action, if the schema alone
-- decides that
abbrev pub LeftOutIsQuiet : Type 0
LeftOutIsQuiet =
    (s : Setting) (t : PlainTemplate) → has_fault s.env.schema ≡ false
    → names_alike s.env.schema.actions t.action ≡ true
    → (e : Env) → IsOneOf e (checked_envs s.env.schema s.env.mode t)
    → IsLeftOut s.env.schema t e → IsQuiet s t e
