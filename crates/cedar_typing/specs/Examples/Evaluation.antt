-- Computed outcomes of small expressions: examples of each form and of each kind of failure.
pub mod Leaves
pub mod Operators
pub mod Entities
pub mod Ancestors
pub mod Calls
use Rattle.std.specs.Prelude.{◌≡◌, true, false, List, map}
use Rattle.cedar_types.specs.Expressions.Tree.{Shape}
use Rattle.cedar_types.specs.Values.{Value, VBool}
use Rattle.cedar_typing.specs.Evaluation.Eval.{eval}
use Rattle.cedar_typing.specs.Evaluation.World.{Failure, Outcome, Gives, Fails}
use Rattle.cedar_typing.specs.Examples.Greeting.{greeting}

-- e evaluates to v
abbrev pub Yields : Shape → Value → Type 0
Yields e v = eval greeting e ≡ Gives v

-- e evaluates to true, or to false
abbrev pub YieldsTrue : Shape → Type 0
YieldsTrue e = Yields e (VBool true)

abbrev pub YieldsFalse : Shape → Type 0
YieldsFalse e = Yields e (VBool false)

-- each of these expressions has the outcome beside it
abbrev pub AllComeTo : List (Shape × Outcome) → Type 0
AllComeTo xs =
    map (λ (x : Shape × Outcome). eval greeting x.0) xs ≡ map (λ (x : Shape × Outcome). x.1) xs

-- e has no value, for this failure
abbrev pub FailsAs : Shape → Failure → Type 0
FailsAs e f = eval greeting e ≡ Fails f
