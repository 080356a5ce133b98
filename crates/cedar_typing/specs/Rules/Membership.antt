-- The rule of `in`.
use Rattle.std.specs.Prelude.{Bool, true, ◌||◌, List, [], ◌∷◌, Option, Some, None, option_map, if◌then◌else◌}
use Rattle.std.specs.List.{list_any, list_all}
use Rattle.cedar_types.specs.declared.base.expressions.operators.BinaryOp.{BinaryOp}
use Rattle.cedar_types.specs.declared.base.types.BoolType.TheVariants.{AnyBool, False}
use Rattle.cedar_types.specs.Names.{Path, Uid, uid_eq, is_action_path}
use Rattle.cedar_types.specs.Types.{Ty, TBool, TSet, TEntity}
use Rattle.cedar_types.specs.Expressions.Tree.{Lit, entity, Trees, no_trees, tree, set_of, binary}
use Rattle.cedar_types.specs.Expressions.View.{Written}
use Rattle.cedar_types.specs.Schemas.{DeclaredAction, Schema, uid_is_among, descendants_of_action, declares_action, any_may_be_in}
use Rattle.cedar_types.specs.Environments.RequestEnvs.{Env, is_partial}
use Rattle.cedar_typing.specs.Capabilities.{no_caps}
use Rattle.cedar_typing.specs.Eager.{Decision, gives, refuses, Form, first_type, second_type, first_tree, second_tree}
use Rattle.cedar_typing.specs.Rules.Equality.{literal_of}
use Rattle.cedar_typing.specs.Rules.Leaves.{bool_ty}
use Rattle.cedar_typing.specs.TypeEnv.{TypeEnv}
use Rattle.cedar_typing.specs.TypeTests.{entity_types, ancestor_types}
use Rattle.cedar_typing.specs.TypedExpr.{Source}

-- ---- entities that stand as they are

abbrev pub literal_entity : Option Lit → Option Uid
literal_entity (Some (entity u)) = Some u
literal_entity x = None

-- the entity that an expression stands for, if it is a literal, or `action` in a declared environment
abbrev pub entity_of : Env → Source → Option Uid
entity_of r e = literal_entity (literal_of r e)

abbrev pub with_entity : Option Uid → Option (List Uid) → Option (List Uid)
with_entity (Some u) (Some us) = Some (u ∷ us)
with_entity u us = None

abbrev pub entities_of : Env → Trees Written → Option (List Uid)
entities_of r no_trees = Some []
entities_of r (tree e es) = with_entity (entity_of r e) (entities_of r es)

-- the one entity that an expression stands for, or those of a set of only such
abbrev pub ancestors_of : Env → Source → Option (List Uid)
ancestors_of r (set_of m ts) = entities_of r ts
ancestors_of r e = option_map (λ u. u ∷ []) (entity_of r e)

abbrev pub is_action : Uid → Bool
is_action u = is_action_path u.entity_type

-- ---- an action in some entities

-- whether an action is one of these, or a descendant of one
abbrev pub is_action_in : List DeclaredAction → Uid → List Uid → Bool
is_action_in acts u vs =
    list_any (λ v. uid_eq u v || uid_is_among (descendants_of_action acts v) u) vs

abbrev pub only_actions : List Uid → List Uid
only_actions [] = []
only_actions (v ∷ vs) = if is_action v then v ∷ only_actions vs else only_actions vs

-- an action can be in actions only. If all are declared, the schema decides. If one is not, the type is
-- Bool: a success in Partial, else a failure without an error, because the passes over names report
-- that action
abbrev pub action_decides : TypeEnv → Uid → List Uid → Decision
action_decides env u vs =
    if list_all (declares_action env.schema.actions) vs
    then gives (bool_ty (is_action_in env.schema.actions u vs)) no_caps
    else if is_partial env.mode then gives (TBool AnyBool) no_caps
    else refuses (Some (TBool AnyBool)) []

-- ---- any entity in others

-- the types of an entity, if they are known
abbrev pub types_of_entity : Option Ty → Option (List Path)
types_of_entity (Some (TEntity ps)) = Some ps
types_of_entity t = None

-- the types of an entity, or those of the entities in a set, if they are known
abbrev pub types_of_ancestors : Option Ty → Option (List Path)
types_of_ancestors (Some (TEntity ps)) = Some ps
types_of_ancestors (Some (TSet (TEntity ps))) = Some ps
types_of_ancestors t = None

-- whether the schema allows an entity of the first types in one of the second. If some are not known,
-- it may
abbrev pub may_be_among : Schema → Option (List Path) → Option (List Path) → Bool
may_be_among s (Some ps) (Some qs) = any_may_be_in s ps qs
may_be_among s ps qs = true

-- False if the schema does not allow it, else Bool
abbrev pub entity_decides : TypeEnv → Option Ty → Option Ty → Decision
entity_decides env s t =
    gives
    (if may_be_among env.schema (types_of_entity s) (types_of_ancestors t) then TBool AnyBool
    else TBool False)
    no_caps

-- ---- the form

-- an action in entities that all stand as they are, or any entity in others
abbrev pub in_decides : TypeEnv → Option Uid → Option (List Uid) → Option Ty → Option Ty → Decision
in_decides env (Some u) (Some vs) s t =
    if is_action u then action_decides env u (only_actions vs) else entity_decides env s t
in_decides env u vs s t = entity_decides env s t

-- `a in b` of an entity, and an entity or a set of entities. Both operands are typed in any case, even
-- b after an a that is too deep. If an operand failed, the type is Bool
abbrev pub in_form : TypeEnv → Written → Source → Source → Form
in_form env m a b = record {
  at = m;
  expects = Some entity_types ∷ Some ancestor_types ∷ [];
  goes_on = true;
  decides = λ ts.
      in_decides env (entity_of env.request_env a) (ancestors_of env.request_env b)
      (first_type ts) (second_type ts);
  type_if_failed = λ t. TBool AnyBool;
  at_limit = λ ts. [];
  node = λ k xs. binary k BinaryOp.In (first_tree xs) (second_tree xs);
}
