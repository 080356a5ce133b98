-- The variables and slots that an expression reads, as flags, and the context of an environment.
use Rattle.std.specs.Borrow.{Bor}
use Rattle.std.specs.Prelude.{◌↔◌, Bool, true, IsTrue, Option, Some, None}
use Rattle.cedar_types.specs.declared.base.expressions.operators.Var.{Var}
use Rattle.cedar_types.specs.declared.base.names.slots.SlotId.{SlotId}
use Rattle.cedar_types.specs.declared.base.types.CedarType.{CedarType}
use Rattle.cedar_types.specs.declared.types.request_env.RequestEnv.{RequestEnv}
use Rattle.cedar_types.specs.declared.types.request_env.RequestEnv.TheVariants.{DeclaredAction, UndeclaredAction}
use Rattle.cedar_types.specs.Expressions.Tree.{Tree, var, slot}
use Rattle.cedar_types.specs.Types.{Ty, TRecord, no_attrs, ty_of}
use Rattle.cedar_typing.specs.TypedExpr.{Source}
use Rattle.cedar_alike.specs.declared.reads.Reads.{Reads}
use Rattle.cedar_alike.specs.Reads.{ReadsVariable, ReadsSlot}

-- whether a variable, or a slot, is among those of the flags
abbrev pub has_variable : Reads → Var → Bool
has_variable f Var.Principal = f.principal
has_variable f Var.Action = f.action
has_variable f Var.Resource = f.resource
has_variable f Var.Context = f.context

abbrev pub has_slot : Reads → SlotId → Bool
has_slot f SlotId.Principal = f.principal_slot
has_slot f SlotId.Resource = f.resource_slot

-- the flags tell exactly which variables and slots the expression reads
pub record AreReads (f : Reads) (e : Source) : Type 0 where
  pub variables : (x : Var) → IsTrue (has_variable f x) ↔ ReadsVariable e x
  pub slots : (x : SlotId) → IsTrue (has_slot f x) ↔ ReadsSlot e x

-- the flags with what one node itself is, if it is a variable or a slot
abbrev pub with_node : {D : Type 0} → Reads → Tree D → Reads
with_node f (var m Var.Principal) = record f { principal = true }
with_node f (var m Var.Action) = record f { action = true }
with_node f (var m Var.Resource) = record f { resource = true }
with_node f (var m Var.Context) = record f { context = true }
with_node f (slot m SlotId.Principal) = record f { principal_slot = true }
with_node f (slot m SlotId.Resource) = record f { resource_slot = true }
with_node f e = f

-- ---- the context of an environment

-- the declared type of the context, if the action is declared
abbrev pub context_in : RequestEnv → Option (Bor CedarType)
context_in (DeclaredAction p a r c ps rs) = Some c
context_in UndeclaredAction = None

-- the type of the context, which is any record if none is declared
abbrev pub context_or_any : Option (Bor CedarType) → Ty
context_or_any (Some c) = ty_of c.now
context_or_any None = TRecord no_attrs true
