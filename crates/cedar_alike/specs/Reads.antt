-- What an expression reads of its environment, and environments that agree on it.
use Rattle.std.specs.Prelude.{◌≡◌}
use Rattle.cedar_types.specs.declared.base.expressions.operators.Var.{Var}
use Rattle.cedar_types.specs.declared.base.names.slots.SlotId.{SlotId}
use Rattle.cedar_types.specs.Environments.RequestEnvs.{Env, principal_ty, action_ty, resource_ty, context_ty}
use Rattle.cedar_types.specs.Expressions.Parts.{subexpressions}
use Rattle.cedar_types.specs.Expressions.Tree.{var, slot}
use Rattle.cedar_types.specs.Expressions.View.{Written}
use Rattle.cedar_types.specs.Schemas.{Schema}
use Rattle.cedar_typing.specs.Evaluation.Conformance.{IsOneOf}
use Rattle.cedar_typing.specs.Rules.Equality.{action_literal}
use Rattle.cedar_typing.specs.Rules.Leaves.{slot_ty}
use Rattle.cedar_typing.specs.TypedExpr.{Source}

-- an expression reads a variable if the variable occurs in it
abbrev pub ReadsVariable : Source → Var → Type 0
ReadsVariable e x = (m : Written) × IsOneOf (var m x) (subexpressions e)

-- an expression reads a slot if the slot occurs in it
abbrev pub ReadsSlot : Source → SlotId → Type 0
ReadsSlot e x = (m : Written) × IsOneOf (slot m x) (subexpressions e)

-- `action` has one type in both environments, by any schema, and stands for one literal in both, or
-- for none in either
pub record SameAction (r r' : Env) : Type 0 where
  pub type : (s : Schema) → action_ty s r ≡ action_ty s r'
  pub literal : action_literal r ≡ action_literal r'

-- a variable is the same in both environments: its type, and of `action` the literal too
abbrev pub SameVariable : Env → Env → Var → Type 0
SameVariable r r' Var.Principal = principal_ty r ≡ principal_ty r'
SameVariable r r' Var.Action = SameAction r r'
SameVariable r r' Var.Resource = resource_ty r ≡ resource_ty r'
SameVariable r r' Var.Context = context_ty r ≡ context_ty r'

-- a slot has one type in both environments
abbrev pub SameSlot : Env → Env → SlotId → Type 0
SameSlot r r' x = slot_ty r x ≡ slot_ty r' x

-- the environments agree on what the expression reads: each variable and each slot that it reads is
-- the same in both
pub record AgreeOn (r r' : Env) (e : Source) : Type 0 where
  pub variables : (x : Var) → ReadsVariable e x → SameVariable r r' x
  pub slots : (x : SlotId) → ReadsSlot e x → SameSlot r r' x
