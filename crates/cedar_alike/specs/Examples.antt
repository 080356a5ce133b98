-- Computed examples: each variable and each slot that an expression reads can decide its type.
use Rattle.std.specs.Prelude.{Some, None, [], ◌∷◌}
use Rattle.cedar_types.specs.declared.base.expressions.operators.Var.{Var}
use Rattle.cedar_types.specs.declared.base.names.slots.SlotId.{SlotId}
use Rattle.cedar_types.specs.declared.base.types.BoolType.TheVariants.{True, False}
use Rattle.cedar_types.specs.declared.base.types.ValidationMode.TheVariants.{Strict}
use Rattle.cedar_types.specs.Environments.{DeclaredEnv}
use Rattle.cedar_types.specs.Environments.RequestEnvs.{Env, Declared}
use Rattle.cedar_types.specs.Expressions.Tree.{Shape, var, slot}
use Rattle.cedar_types.specs.Types.{Ty, TBool, TEntity, TAnyEntity}
use Rattle.cedar_typing.specs.Composition.{in_env}
use Rattle.cedar_typing.specs.Examples.Expressions.{principal, context, the, equal, is_in}
use Rattle.cedar_typing.specs.Examples.Rules.{IsTypedIn}
use Rattle.cedar_typing.specs.Examples.Rules.Equality.{action}
use Rattle.cedar_typing.specs.Examples.World.{sample, users_greet, a_context, no_context, a_user, an_action, robot, user, greet, meet, act}

-- users greet users in a context, without links of slots
abbrev pub asked : DeclaredEnv
asked = users_greet a_context

abbrev pub plain : DeclaredEnv → Env
plain d = Declared d None None

-- an expression has one type in one environment, and another type in the other
pub record IsTypedApart (r r' : Env) (e : Shape) (t t' : Ty) : Type 0 where
  pub one : IsTypedIn (in_env (sample Strict) r) e t
  pub other : IsTypedIn (in_env (sample Strict) r') e t'

-- in each pair of environments one part differs alone, and decides the type
pub record EachPartDecides : Type 0 where
  -- a user and a robot: `principal`, `resource`
  pub principals : IsTypedApart (plain asked) (plain (record asked { principal = robot }))
      principal a_user (TEntity (robot ∷ []))
  pub resources : IsTypedApart (plain asked) (plain (record asked { resource = robot }))
      (var tt Var.Resource) a_user (TEntity (robot ∷ []))
  -- two contexts: `context`
  pub contexts : IsTypedApart (plain asked) (plain (record asked { context = no_context }))
      context a_context no_context
  -- two actions of two types: `action`
  pub action_types : IsTypedApart (plain asked) (plain (record asked { action = act }))
      action an_action (TEntity (act.entity_type ∷ []))
  -- two actions of one type: `action == Action::"greet"`, and `action in Action::"greet"`
  pub equal_actions : IsTypedApart (plain asked) (plain (record asked { action = meet }))
      (equal action (the greet)) (TBool True) (TBool False)
  pub actions_within : IsTypedApart (plain asked) (plain (record asked { action = meet }))
      (is_in action (the greet)) (TBool True) (TBool False)
  -- a slot that is linked to a user, or to nothing: `?principal`, `?resource`
  pub principal_slots : IsTypedApart (Declared asked (Some user) None) (plain asked)
      (slot tt SlotId.Principal) a_user TAnyEntity
  pub resource_slots : IsTypedApart (Declared asked None (Some user)) (plain asked)
      (slot tt SlotId.Resource) a_user TAnyEntity
