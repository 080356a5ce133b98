-- Computed outcomes of expressions without parts, of sets and records, and of tests.
use Rattle.std.specs.Prelude.{pos, Bool, true, false, not, List, [], ◌∷◌, codes}
use Rattle.cedar_types.specs.declared.base.expressions.operators.Var.{Var}
use Rattle.cedar_types.specs.declared.base.expressions.operators.UnaryOp.{UnaryOp}
use Rattle.cedar_types.specs.declared.base.names.slots.SlotId.{SlotId}
use Rattle.cedar_types.specs.Expressions.Tree.{Shape, var, slot, unknown, if_then_else, and, or, unary, record_of, no_fields}
use Rattle.cedar_types.specs.Values.{VBool, VEntity, VSet, VRecord, VExtension, no_values, no_entries, more_entries}
use Rattle.cedar_typing.specs.Evaluation.World.{TypeFailure, MissingEntity, UnlinkedSlot, UnknownValue, Outcome, Gives, Fails}
use Rattle.cedar_typing.specs.Examples.Evaluation.{Yields, YieldsTrue, YieldsFalse, FailsAs, AllComeTo}
use Rattle.cedar_typing.specs.Examples.Expressions.{lit_of, true_lit, false_lit, one, two, text, the, principal, context, set0, set2, set3}
use Rattle.cedar_typing.specs.Examples.Expressions.{record2, missing, mistyped}
use Rattle.cedar_typing.specs.Examples.Greeting.{number, words, two_values}
use Rattle.cedar_typing.specs.Examples.World.{named, ip_address, alice, bob, gone, greet}

pub record LeafExamples : Type 0 where
  -- `true`
  pub literal_bool : Yields true_lit (VBool true)
  -- `1`
  pub literal_long : Yields one (number (pos 1))
  -- `"a"`
  pub literal_string : Yields (text (codes "a")) (words (codes "a"))
  -- `User::"gone"`: an entity need not be in the store
  pub literal_entity : Yields (the gone) (VEntity gone)
  -- `principal`
  pub principal : Yields principal (VEntity alice)
  -- `action`
  pub action : Yields (var tt Var.Action) (VEntity greet)
  -- `resource`
  pub resource : Yields (var tt Var.Resource) (VEntity bob)
  -- `context`
  pub context : Yields context
      (VRecord (more_entries (codes "address") (VExtension ip_address (codes "::1"))
      (more_entries (codes "friend") (VEntity gone) no_entries)))
  -- `?resource`, which is bound to bob
  pub slot_bound : Yields (slot tt SlotId.Resource) (VEntity bob)
  -- `?principal`, which is not bound
  pub slot_unlinked : FailsAs (slot tt SlotId.Principal) UnlinkedSlot
  -- `unknown(x)`
  pub unknown_fails : FailsAs (unknown tt (named (codes "x"))) UnknownValue
  -- `[]`
  pub set_empty : Yields set0 (VSet no_values)
  -- `[1, "a"]`
  pub set_of_two : Yields (set2 one (text (codes "a")))
      (VSet (two_values (number (pos 1)) (words (codes "a"))))
  -- `[User::"gone".age, 1 + true]`: the first failure is the outcome
  pub set_first_failure : FailsAs (set2 missing mistyped) MissingEntity
  -- `[1, 1 + true, User::"gone".age]`
  pub set_later_failure : FailsAs (set3 one mistyped missing) TypeFailure
  -- `{}`
  pub record_empty : Yields (record_of tt no_fields) (VRecord no_entries)
  -- `{a: 1, b: "x"}`
  pub record_of_two : Yields (record2 (codes "a") one (codes "b") (text (codes "x")))
      (VRecord (more_entries (codes "a") (number (pos 1))
      (more_entries (codes "b") (words (codes "x")) no_entries)))
  -- `{a: User::"gone".age, b: 1 + true}`: the first failure by key is the outcome
  pub record_first_failure : FailsAs (record2 (codes "a") missing (codes "b") mistyped)
      MissingEntity
  -- `{a: 1 + true, b: User::"gone".age}`
  pub record_other_failure : FailsAs (record2 (codes "a") mistyped (codes "b") missing) TypeFailure
  -- `{a: 1, b: 1 + true}`
  pub record_later_failure : FailsAs (record2 (codes "a") one (codes "b") mistyped) TypeFailure

-- the outcomes of `&&`, which false ends, and of `||`, which true ends: b is the value that ends
-- the whole
abbrev pub ended_by : (Shape → Shape → Shape) → Bool → List (Shape × Outcome)
ended_by join b =
    -- `true && true`, `false || false`
    (join (lit_of (not b)) (lit_of (not b)), Gives (VBool (not b)))
    -- `true && false`, `false || true`
    ∷ (join (lit_of (not b)) (lit_of b), Gives (VBool b))
    -- `false && User::"gone".age`, `true || User::"gone".age`: the right side is not evaluated
    ∷ (join (lit_of b) missing, Gives (VBool b))
    -- `true && 1`, `false || 1`
    ∷ (join (lit_of (not b)) one, Fails TypeFailure)
    -- `true && User::"gone".age`, `false || User::"gone".age`
    ∷ (join (lit_of (not b)) missing, Fails MissingEntity)
    -- `1 && User::"gone".age`, `1 || User::"gone".age`: the left side is evaluated first
    ∷ (join one missing, Fails TypeFailure)
    -- `User::"gone".age && false`, `User::"gone".age || true`
    ∷ (join missing (lit_of b), Fails MissingEntity)
    ∷ []

pub record TestExamples : Type 0 where
  -- `if true then 1 else User::"gone".age`: the other branch is not evaluated
  pub if_true : Yields (if_then_else tt true_lit one missing) (number (pos 1))
  -- `if false then User::"gone".age else 2`
  pub if_false : Yields (if_then_else tt false_lit missing two) (number (pos 2))
  -- `if true then User::"gone".age else 2`
  pub if_taken_fails : FailsAs (if_then_else tt true_lit missing two) MissingEntity
  -- `if 1 then User::"gone".age else User::"gone".age`: the test is evaluated first
  pub if_not_bool : FailsAs (if_then_else tt one missing missing) TypeFailure
  -- `if User::"gone".age then 1 else 2`
  pub if_test_fails : FailsAs (if_then_else tt missing one two) MissingEntity
  pub and_false : AllComeTo (ended_by (and tt) false)
  pub or_true : AllComeTo (ended_by (or tt) true)
  -- `!true`
  pub not_true : YieldsFalse (unary tt UnaryOp.Not true_lit)
  -- `!false`
  pub not_false : YieldsTrue (unary tt UnaryOp.Not false_lit)
  -- `!1`
  pub not_of_long : FailsAs (unary tt UnaryOp.Not one) TypeFailure
  -- `!(User::"gone".age)`
  pub not_fails : FailsAs (unary tt UnaryOp.Not missing) MissingEntity
