-- Worlds in which expressions are evaluated: a request, the bindings of its slots, a store, and the extension functions; and
-- the outcomes of evaluation.
use Rattle.std.specs.Prelude.{Bool, ◌&&◌, List, [], ◌∷◌, Option, Some, None, if◌then◌else◌}
use Rattle.std.specs.List.{list_any}
use Rattle.cedar_types.specs.declared.base.names.slots.SlotId.{SlotId}
use Rattle.cedar_types.specs.Names.{Path, Uid, path_eq}
use Rattle.cedar_types.specs.Values.{Value, Values, Entries}
use Rattle.cedar_types.specs.Values.Stores.{Store}
use Rattle.cedar_typing.specs.Evaluation.Equality.{same_value, same_values}

-- a request: the principal, its action on a resource, and the context
pub record Request : Type 0 where
  pub principal : Uid
  pub action : Uid
  pub resource : Uid
  pub context : Entries

-- the entity to which each slot is bound, if it is bound
abbrev pub Slots : Type 0
Slots = SlotId → Option Uid

-- a call of an extension function that gives a value
pub record Call : Type 0 where
  pub function : Path
  pub arguments : Values
  pub value : Value

-- the extension functions as finite data: their calls that give a value, of which the first with equal arguments counts; the
-- types that `<` and `<=` compare; and the pairs of values of such a type for which each of them is true
pub record Interpretation : Type 0 where
  pub calls : List Call
  pub overloaded_types : List Path
  pub less : List (Value × Value)
  pub less_or_equal : List (Value × Value)

pub record World : Type 0 where
  pub request : Request
  pub slots : Slots
  pub store : Store
  pub functions : Interpretation

-- the reason why an expression has no value
pub data Failure : Type 0 where
  -- a value of the wrong kind
  TypeFailure : Failure
  -- an attribute or a tag that is not there
  AbsentAttribute : Failure
  AbsentTag : Failure
  -- an entity that is not in the store
  MissingEntity : Failure
  -- a number outside 64 bits
  Overflow : Failure
  -- a call that gives no value
  ExtensionFailure : Failure
  -- a slot that is not bound
  UnlinkedSlot : Failure
  -- an unknown
  UnknownValue : Failure

-- the outcome of evaluation: a value, or the reason why there is none
pub data Outcome : Type 0 where
  Gives : Value → Outcome
  Fails : Failure → Outcome

-- the value of the first call of a function with equal arguments. A function is known by its calls alone
abbrev pub call_value : List Call → Path → Values → Option Value
call_value [] f vs = None
call_value (c ∷ cs) f vs =
    if path_eq f c.function && same_values vs c.arguments then Some c.value
    else call_value cs f vs

-- whether a pair of equal values is among the pairs
abbrev pub has_pair : List (Value × Value) → Value → Value → Bool
has_pair ps v w = list_any (λ p. same_value v p.0 && same_value w p.1) ps
