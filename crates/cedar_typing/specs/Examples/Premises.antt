-- A policy and a world for which every premise of type soundness holds, and data for which one does
-- not.
use Rattle.std.specs.Prelude.{◌≡◌, pos, true, false, List, [], ◌∷◌, Some, None, codes}
use Rattle.cedar_types.specs.declared.base.expressions.operators.UnaryOp.{UnaryOp}
use Rattle.cedar_types.specs.declared.base.expressions.operators.Var.{Var}
use Rattle.cedar_types.specs.declared.base.names.slots.SlotId.{SlotId}
use Rattle.cedar_types.specs.declared.base.types.ValidationMode.TheVariants.{Strict}
use Rattle.cedar_types.specs.Names.{Path}
use Rattle.cedar_types.specs.Expressions.Tree.{Shape, if_then_else, and, or, unary, slot, var}
use Rattle.cedar_types.specs.Templates.{PlainTemplate, any, condition_of}
use Rattle.cedar_types.specs.Capability.{attribute}
use Rattle.cedar_types.specs.Extensions.Functions.{table_fault}
use Rattle.cedar_types.specs.Schemas.{has_fault}
use Rattle.cedar_types.specs.Values.{VBool}
use Rattle.cedar_typing.specs.Evaluation.Conformance.{ConformingRequest, FitsSlot, SlotsBound, KeepsTable, Holds, AllHold}
use Rattle.cedar_typing.specs.Evaluation.Eval.{eval}
use Rattle.cedar_typing.specs.Evaluation.World.{Interpretation, Gives, MissingEntity, Fails}
use Rattle.cedar_typing.specs.Examples.Composition.{template}
use Rattle.cedar_typing.specs.Examples.Expressions.{false_lit, context, dot, has, has_vip, get_vip, call2, decimal_one, decimal_two, node}
use Rattle.cedar_typing.specs.Examples.Expressions.{numbered}
use Rattle.cedar_typing.specs.Examples.Greeting.{number, words, one_value, giving, sample_slots, sample_functions, greeting}
use Rattle.cedar_typing.specs.Examples.Rules.{marked_principal}
use Rattle.cedar_typing.specs.Examples.World.{decimal, duration, ip_address, less_than, greet, sample_schema, decimal_function}
use Rattle.cedar_typing.specs.Examples.World.{extension_functions, sample}
use Rattle.cedar_typing.specs.PolicyCheck.{PolicyChecks, succeeds}
use Rattle.cedar_typing.specs.Setting.{table}
use Rattle.cedar_typing.specs.Soundness.{IsReliable, IsWorldOf}
use Rattle.cedar_typing.specs.TypedExpr.{Source, TypedTree}

-- `lessThan(decimal("1.0"), decimal("2.0"))`
abbrev pub in_order : Shape
in_order = call2 less_than decimal_one decimal_two

-- `if ?resource has age then (principal has vip && (principal.vip && lessThan(decimal("1.0"),
-- decimal("2.0")))) || !(principal has vip) else false`
abbrev pub guarded : Shape
guarded =
    if_then_else tt (has (slot tt SlotId.Resource) (codes "age"))
    (or tt (and tt has_vip (and tt get_vip in_order)) (unary tt UnaryOp.Not has_vip)) false_lit

-- `permit(principal, action, resource) when { .. }` with this condition
abbrev pub guarded_policy : PlainTemplate
guarded_policy = template any any (Some guarded)

abbrev pub guarded_condition : Source
guarded_condition = condition_of guarded_policy

-- `context.friend.age`
abbrev pub friends_age : Source
friends_age = numbered (dot (dot context (codes "friend")) (codes "age"))

-- the extension functions with a `decimal("1.0")` that is 1, and with these types compared
abbrev pub giving_a_number : Interpretation
giving_a_number = record sample_functions {
  calls = giving decimal (one_value (words (codes "1.0"))) (number (pos 1)) ∷ [];
}

abbrev pub comparing : List Path → Interpretation
comparing ps = record sample_functions { overloaded_types = ps }

abbrev pub KeepsSampleTable : Interpretation → Type 0
KeepsSampleTable = KeepsTable (table (sample Strict))

-- the premises of type soundness hold together; the check succeeds, and evaluation gives true
pub record PremisesAreMet : Type 0 where
  pub faultless : has_fault sample_schema ≡ false
  pub faultless_functions : table_fault extension_functions ≡ None
  pub reliable : IsReliable (sample Strict)
  pub request : ConformingRequest sample_schema greeting.request
  pub world : IsWorldOf (sample Strict) greeting
  pub bound : SlotsBound greeting.slots guarded_condition
  -- a prior capability holds: alice has the mark
  pub held : AllHold greeting marked_principal
  pub checks : (x : TypedTree) × PolicyChecks (sample Strict) guarded_condition (succeeds x)
  pub evaluates : eval greeting guarded_condition ≡ Gives (VBool true)
  -- an allowed failure: the friend is not in the store
  pub fails : eval greeting friends_age ≡ Fails MissingEntity

-- the premises fail for other data
pub record PremisesCanFail : Type 0 where
  -- bob has no mark
  pub held : Holds greeting (attribute (var tt Var.Resource) (codes "vip")) → ⊥
  -- bob is no action
  pub slots : FitsSlot (Some greet.entity_type) (sample_slots SlotId.Resource) → ⊥
  -- the principal's slot is not bound
  pub bound : SlotsBound greeting.slots (slot (node 1) SlotId.Principal) → ⊥
  -- `decimal` may stand once in the table
  pub functions : table_fault (decimal_function ∷ decimal_function ∷ []) ≡ None → ⊥
  -- a number is no decimal
  pub returns : KeepsSampleTable giving_a_number → ⊥
  -- addresses must not be compared, and durations must be
  pub compares_more : KeepsSampleTable (comparing (decimal ∷ duration ∷ ip_address ∷ [])) → ⊥
  pub compares_fewer : KeepsSampleTable (comparing (decimal ∷ [])) → ⊥
