-- The rules of expressions without parts: literals, variables, slots and unknowns.
use Rattle.std.specs.Prelude.{◌≡◌, Bool, true, false, List, [], ◌∷◌, Option, Some, None, if◌then◌else◌}
use Rattle.cedar_types.specs.declared.base.expressions.operators.Var.{Var}
use Rattle.cedar_types.specs.declared.base.names.slots.SlotId.{SlotId}
use Rattle.cedar_types.specs.declared.base.types.BoolType.TheVariants.{True, False}
use Rattle.cedar_types.specs.declared.base.types.ValidationMode.{ValidationMode}
use Rattle.cedar_types.specs.Names.{Path, Uid}
use Rattle.cedar_types.specs.Types.{Ty, TBool, TLong, TString, TEntity, TAnyEntity}
use Rattle.cedar_types.specs.Expressions.Tree.{Lit, bool, long, string, entity, unknown}
use Rattle.cedar_types.specs.Expressions.View.{Written}
use Rattle.cedar_types.specs.Types.Lookups.{literal_type}
use Rattle.cedar_types.specs.Environments.RequestEnvs.{Env, Declared, Undeclared, principal_ty, resource_ty, action_ty, context_ty}
use Rattle.cedar_types.specs.Environments.RequestEnvs.{is_partial}
use Rattle.cedar_types.specs.Errors.{Finding}
use Rattle.cedar_typing.specs.Capabilities.{Caps, no_caps}
use Rattle.cedar_typing.specs.Judgments.{Judgment, NoDerivation, NoCut}
use Rattle.cedar_typing.specs.TypeEnv.{TypeEnv}
use Rattle.cedar_typing.specs.TypedExpr.{TypedTree, Mark, typed, untyped}

-- ---- the tables

-- the types of the variables. An action has a type if the schema declares it
abbrev pub variable_type : TypeEnv → Var → Option Ty
variable_type env Var.Principal = Some (principal_ty env.request_env)
variable_type env Var.Action = action_ty env.schema env.request_env
variable_type env Var.Resource = Some (resource_ty env.request_env)
variable_type env Var.Context = Some (context_ty env.request_env)

-- the type of a slot: entities of the linked type, else any entity
abbrev pub linked_ty : Option Path → Ty
linked_ty None = TAnyEntity
linked_ty (Some p) = TEntity (p ∷ [])

abbrev pub slot_ty : Env → SlotId → Ty
slot_ty (Declared d ps rs) SlotId.Principal = linked_ty ps
slot_ty (Declared d ps rs) SlotId.Resource = linked_ty rs
slot_ty Undeclared s = TAnyEntity

abbrev pub bool_ty : Bool → Ty
bool_ty true = TBool True
bool_ty false = TBool False

-- an entity that the schema does not know has its type in Partial, whose schema need not declare
-- everything. Else it has none
abbrev pub unknown_entity_type : ValidationMode → Uid → Option Ty
unknown_entity_type m u = if is_partial m then Some (TEntity (u.entity_type ∷ [])) else None

abbrev pub known_entity_type : Option Ty → Option Ty → Option Ty
known_entity_type None other = other
known_entity_type (Some t) other = Some t

-- the types of literals: True or False, Long, String; for an entity its own type, if the schema
-- knows it
abbrev pub type_of_literal : TypeEnv → Lit → Option Ty
type_of_literal env (bool b) = Some (bool_ty b)
type_of_literal env (long z) = Some TLong
type_of_literal env (string s) = Some TString
type_of_literal env (entity u) =
    known_entity_type (literal_type env.schema u) (unknown_entity_type env.mode u)

-- ---- the rules

-- the type that the table gives, if it gives one. The whole produces no capabilities
pub data LeafRule (found : Option Ty) (m : Written) (node : Mark → TypedTree) :
    Ty → Caps → TypedTree → Type 0 where
  leaf : {t : Ty} → found ≡ Some t → LeafRule found m node t no_caps (node (typed t m))

-- if the table gives no type, the whole fails without an error, because the passes over names
-- report it
pub data LeafRecovery (found : Option Ty) (m : Written) (node : Mark → TypedTree) :
    TypedTree → List Finding → Type 0 where
  leaf_missing : found ≡ None → LeafRecovery found m node (node (untyped m)) []

abbrev pub leaf_rules : Option Ty → Written → (Mark → TypedTree) → Judgment
leaf_rules found m node = record {
  derives = LeafRule found m node;
  recovers = LeafRecovery found m node;
  cuts = NoCut;
}

-- an unknown always fails, with no error, no type and no place
pub data UnknownRecovery (n : Path) (m : Written) : TypedTree → List Finding → Type 0 where
  unknown_fails :
      UnknownRecovery n m (unknown (untyped (record { place = None; names = m.names })) n) []

abbrev pub unknown_rules : Path → Written → Judgment
unknown_rules n m =
    record { derives = NoDerivation; recovers = UnknownRecovery n m; cuts = NoCut }
