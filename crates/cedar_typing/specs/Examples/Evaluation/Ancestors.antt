-- `in` looks at the stored ancestors of its left side, and at nothing else.
use Rattle.std.specs.Prelude.{◌≡◌, true, false, Bool, [], ◌∷◌, None}
use Rattle.cedar_types.specs.declared.base.expressions.operators.BinaryOp.{BinaryOp}
use Rattle.cedar_types.specs.Values.Stores.{entity_at}
use Rattle.cedar_types.specs.Expressions.Tree.{Shape, binary}
use Rattle.cedar_types.specs.Values.{VBool}
use Rattle.cedar_typing.specs.Evaluation.Eval.{eval}
use Rattle.cedar_typing.specs.Evaluation.World.{World, Gives}
use Rattle.cedar_typing.specs.Examples.Expressions.{the, set1, set2}
use Rattle.cedar_typing.specs.Examples.Greeting.{stored_alice, stored_bob, greeting}
use Rattle.cedar_typing.specs.Examples.World.{alice, bob, gone, greet}

-- the world in which alice is in bob, bob is in `User::"gone"`, which is not stored, and no other
-- entity is stored
abbrev pub in_line : World
in_line = record greeting {
  store = (alice, stored_alice) ∷ (bob, record stored_bob { ancestors = gone ∷ [] }) ∷ [];
}

-- the outcome of `a in b` in this world
abbrev pub IsIn : Shape → Shape → Bool → Type 0
IsIn a b x = eval in_line (binary tt BinaryOp.In a b) ≡ Gives (VBool x)

pub record AncestorExamples : Type 0 where
  pub not_stored : entity_at in_line.store gone ≡ None
  -- `User::"alice" in User::"bob"`: bob is an ancestor
  pub in_ancestor : IsIn (the alice) (the bob) true
  -- `User::"bob" in User::"gone"`: an ancestor need not be stored
  pub in_missing : IsIn (the bob) (the gone) true
  pub in_set_of_missing : IsIn (the bob) (set2 (the greet) (the gone)) true
  -- `User::"alice" in User::"gone"`: the ancestors of an ancestor are not followed
  pub in_second : IsIn (the alice) (the gone) false
  pub in_set_of_second : IsIn (the alice) (set1 (the gone)) false
