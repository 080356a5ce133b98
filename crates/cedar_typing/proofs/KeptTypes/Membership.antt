-- Each type of `in` is kept, because it is a Bool.
use Rattle.std.proofs.Common.{Bool, true, false, List, [], Option, Some, if◌then◌else◌}
use Rattle.std.specs.List.{list_all}
use Rattle.cedar_types.specs.declared.base.types.BoolType.TheVariants.{AnyBool, False}
use Rattle.cedar_types.specs.Names.{Uid}
use Rattle.cedar_types.specs.Types.{Ty, TBool}
use Rattle.cedar_types.specs.Expressions.View.{Written}
use Rattle.cedar_types.specs.Schemas.{declares_action}
use Rattle.cedar_types.specs.Environments.RequestEnvs.{is_partial}
use Rattle.cedar_typing.specs.Capabilities.{no_caps}
use Rattle.cedar_typing.specs.Eager.{Decision, gives, refuses, first_type, second_type}
use Rattle.cedar_typing.specs.Rules.Leaves.{bool_ty}
use Rattle.cedar_typing.specs.Rules.Membership.{entity_of, ancestors_of, is_action, is_action_in, only_actions, action_decides}
use Rattle.cedar_typing.specs.Rules.Membership.{types_of_entity, types_of_ancestors, may_be_among, entity_decides, in_decides, in_form}
use Rattle.cedar_typing.specs.TypeEnv.{TypeEnv}
use Rattle.cedar_typing.specs.TypedExpr.{Source}
use Rattle.cedar_typing.proofs.KeptTypes.Eager.{decided_type, KeptForm, KeptIfFailed}
use Rattle.cedar_typing.proofs.KeptTypes.Keeping.{HasKept, IsKeeping, truth_value_kept}

module _ (Kept : Ty → Type 0) (env : TypeEnv) (keeps : IsKeeping Kept env) (m : Written) where
  abbrev DecidesKept : Decision → Type 0
  DecidesKept d = HasKept Kept (decided_type d)

  either_kept : (b : Bool) (d e : Decision) → DecidesKept d → DecidesKept e → DecidesKept (if b then d else e)
  either_kept true d e h k = h
  either_kept false d e h k = k

  action_kept : (declared partial is_in : Bool)
      → DecidesKept (if declared then gives (bool_ty is_in) no_caps else if partial
      then gives (TBool AnyBool) no_caps else refuses (Some (TBool AnyBool)) [])
  action_kept true partial is_in = truth_value_kept Kept env keeps is_in
  action_kept false true is_in = keeps.booleans AnyBool
  action_kept false false is_in = keeps.booleans AnyBool

  schema_kept : (b : Bool) → DecidesKept (gives (if b then TBool AnyBool else TBool False) no_caps)
  schema_kept true = keeps.booleans AnyBool
  schema_kept false = keeps.booleans False

  entity_kept : (s t : Option Ty) → DecidesKept (entity_decides env s t)
  entity_kept s t = schema_kept (may_be_among env.schema (types_of_entity s) (types_of_ancestors t))

  decides_kept : (u : Option Uid) (vs : Option (List Uid)) (s t : Option Ty) → DecidesKept (in_decides env u vs s t)
  decides_kept (Some u) (Some vs) s t =
      let ws = only_actions vs in
      let actions = env.schema.actions in
      either_kept (is_action u) (action_decides env u ws) (entity_decides env s t)
      (action_kept (list_all (declares_action actions) ws) (is_partial env.mode) (is_action_in actions u ws)) (entity_kept s t)
  decides_kept u vs s t = entity_kept s t

  pub in_kept : (a b : Source) → KeptForm Kept (in_form env m a b)
  in_kept a b ts h = decides_kept (entity_of env.request_env a) (ancestors_of env.request_env b) (first_type ts) (second_type ts)

  pub in_failed_kept : (a b : Source) → KeptIfFailed Kept (in_form env m a b)
  in_failed_kept a b t h = keeps.booleans AnyBool
