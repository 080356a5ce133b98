-- Templates in the sample schema, with the environments in which each is checked; and an example that the theorems on a
-- template in its environments need: its slots stand in the scope alone.
use Rattle.std.specs.Prelude.{◌≡◌, false, [], ◌∷◌, Option, Some, None, codes}
use Rattle.cedar_types.specs.declared.base.names.slots.SlotId.{SlotId}
use Rattle.cedar_types.specs.declared.base.types.ValidationMode.TheVariants.{Strict, Partial}
use Rattle.cedar_types.specs.Names.{Path, Uid, PlacedType, PlacedUid}
use Rattle.cedar_types.specs.Expressions.Tree.{Shape, slot, is_type, or}
use Rattle.cedar_types.specs.Templates.{to_entity, to_slot, Scope, any, equal, within, typed, typed_within, any_action, PlainTemplate}
use Rattle.cedar_types.specs.Templates.{condition_of}
use Rattle.cedar_types.specs.Schemas.{Schema, has_fault}
use Rattle.cedar_types.specs.Values.Stores.{ConformingStore}
use Rattle.cedar_types.specs.Environments.{DeclaredEnv, environments_of}
use Rattle.cedar_types.specs.Environments.RequestEnvs.{Env, Declared, Undeclared}
use Rattle.cedar_types.specs.Environments.Linking.{checked_envs}
use Rattle.cedar_typing.specs.Composition.{own_env, IsFaultless, IsIrrelevantInAll}
use Rattle.cedar_typing.specs.Evaluation.Conformance.{IsOneOf, ConformingRequest, KeepsTable}
use Rattle.cedar_typing.specs.Evaluation.Eval.{eval}
use Rattle.cedar_typing.specs.Evaluation.World.{Slots, World}
use Rattle.cedar_typing.specs.Examples.Expressions.{node, numbered}
use Rattle.cedar_typing.specs.Examples.Greeting.{greeting}
use Rattle.cedar_typing.specs.Examples.World.{user, robot, alice, bob, greet, a_context, requested, sample_schema, users_greet, sample}
use Rattle.cedar_typing.specs.Setting.{table}
use Rattle.cedar_typing.specs.Soundness.{IsTrueOutcome}
use Rattle.cedar_typing.specs.TypedExpr.{Source}

-- ---- templates

-- the rest of a template as it is written, if there is one
abbrev pub written_rest : Option Shape → Option Source
written_rest None = None
written_rest (Some e) = Some (numbered e)

-- `permit(principal .., action, resource ..)`, with a rest or without
abbrev pub template : Scope → Scope → Option Shape → PlainTemplate
template p r rest = record {
  id = codes "policy0";
  place = (node 0).place;
  principal = p;
  action = any_action;
  resource = r;
  rest = written_rest rest;
}

abbrev pub a_user_type : PlacedType
a_user_type = record { name = user; place = None }

abbrev pub the_entity : Uid → PlacedUid
the_entity u = record { uid = u; place = None; type_place = None }

-- `?principal is Robot`, and `?resource is Robot`
abbrev pub slot_is_robot : SlotId → Shape
slot_is_robot x = is_type tt (slot tt x) robot

abbrev pub some_slot_is_robot : Shape
some_slot_is_robot = or tt (slot_is_robot SlotId.Principal) (slot_is_robot SlotId.Resource)

-- ---- environments

-- users greet users
abbrev pub greets_env : DeclaredEnv
greets_env = users_greet a_context

-- users greet users, with the types to which the slots are linked
abbrev pub greets : Option Path → Option Path → Env
greets = Declared greets_env

abbrev pub idle_schema : Schema
idle_schema = record sample_schema { actions = [] }

-- a schema in which actions greet users
abbrev pub acting_schema : Schema
acting_schema = record sample_schema {
  actions = requested greet (greet.entity_type ∷ []) (user ∷ []) a_context ∷ [];
}

abbrev pub acting_env : DeclaredEnv
acting_env = record greets_env { principal = greet.entity_type }

pub record EnvironmentsAre : Type 0 where
  -- without slots there is no link
  pub no_slot : checked_envs sample_schema Strict (template any any None) ≡ greets None None ∷ []
  -- `principal == ?principal` has one link: the variable's own type
  pub equal_to : checked_envs sample_schema Strict (template (equal to_slot) any None)
      ≡ greets (Some user) None ∷ []
  -- `principal in ?principal` has the types above it as links, of which User is one, and User itself
  pub within_it : checked_envs sample_schema Strict (template (within to_slot) any None)
      ≡ greets (Some user) None ∷ greets (Some user) None ∷ []
  -- `resource is User in ?resource` has these links too
  pub typed_within_it : checked_envs sample_schema Strict
      (template any (typed_within a_user_type to_slot) None)
      ≡ greets None (Some user) ∷ greets None (Some user) ∷ []
  -- without a constraint, or with `is User`, and with the slot in the rest, each declared type is a link
  pub anywhere : checked_envs sample_schema Strict
      (template any any (Some (slot_is_robot SlotId.Principal)))
      ≡ greets (Some user) None ∷ greets (Some robot) None ∷ []
  pub anywhere_typed : checked_envs sample_schema Strict
      (template (typed a_user_type) any (Some (slot_is_robot SlotId.Principal)))
      ≡ greets (Some user) None ∷ greets (Some robot) None ∷ []
  -- both slots are linked in all ways
  pub both : checked_envs sample_schema Strict (template any any (Some some_slot_is_robot))
      ≡ greets (Some user) (Some user) ∷ greets (Some user) (Some robot)
      ∷ greets (Some robot) (Some user) ∷ greets (Some robot) (Some robot) ∷ []
  -- Partial has the undeclared actions too, once, whatever the slots
  pub undeclared : checked_envs sample_schema Partial (template (within to_slot) any None)
      ≡ greets (Some user) None ∷ greets (Some user) None ∷ Undeclared ∷ []
  -- a schema without actions has no environment
  pub idle : checked_envs idle_schema Strict (template (equal to_slot) any None) ≡ []

-- ---- the premises of the theorems

-- `permit(principal == User::"alice", action, resource == User::"bob") when { ?principal is Robot || ?resource is Robot }`
abbrev pub robots_template : PlainTemplate
robots_template =
    template (equal (to_entity (the_entity alice))) (equal (to_entity (the_entity bob)))
    (Some some_slot_is_robot)

-- `?principal` is bound to alice, `?resource` to a robot
abbrev pub robot_slots : Slots
robot_slots SlotId.Principal = Some alice
robot_slots SlotId.Resource = Some (record { entity_type = robot; eid = codes "r" })

abbrev pub robot_greeting : World
robot_greeting = record greeting { slots = robot_slots }

-- a slot in the rest may be bound to an entity that the scope's variable never is: then a condition that is warned to be
-- impossible is true
pub record SlotsInTheRestAreNot : Type 0 where
  pub faultless : IsFaultless (sample Strict)
  pub environments : checked_envs sample_schema Strict robots_template
      ≡ greets (Some user) (Some user) ∷ []
  pub irrelevant : IsIrrelevantInAll (sample Strict) robots_template
  pub request : ConformingRequest sample_schema robot_greeting.request
  pub store : ConformingStore sample_schema robot_greeting.store
  pub functions : KeepsTable (table (sample Strict)) robot_greeting.functions
  pub is_true : IsTrueOutcome (eval robot_greeting (condition_of robots_template))

-- if an action is the principal and its slot stands in the rest, the request's own environment is not checked
pub record OwnEnvMayBeMissing : Type 0 where
  pub faultless : has_fault acting_schema ≡ false
  pub declared : IsOneOf acting_env (environments_of acting_schema.actions)
  pub missing : IsOneOf
      (own_env (template any any (Some (slot_is_robot SlotId.Principal))) acting_env)
      (checked_envs acting_schema Strict
      (template any any (Some (slot_is_robot SlotId.Principal))))
      → ⊥
