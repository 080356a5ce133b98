-- The promise of a policy's check on its evaluation.
use Rattle.std.specs.Prelude.{not, IsTrue}
use Rattle.cedar_types.specs.Values.{Value, OnBool}
use Rattle.cedar_typing.specs.Evaluation.Conformance.{SlotsBound}
use Rattle.cedar_typing.specs.Evaluation.Eval.{eval}
use Rattle.cedar_typing.specs.Evaluation.World.{World, Outcome}
use Rattle.cedar_typing.specs.PolicyCheck.{Verdict, succeeds, irrelevant, fails}
use Rattle.cedar_typing.specs.Setting.{Setting}
use Rattle.cedar_typing.specs.Soundness.{OnValue, IsSafe, IsReliable, IsWorldOf}
use Rattle.cedar_typing.specs.TypedExpr.{Source}

abbrev pub IsBoolean : Value → Type 0
IsBoolean = OnBool (λ b. Unit {0})

abbrev pub IsFalse : Value → Type 0
IsFalse = OnBool (λ b. IsTrue (not b))

-- a boolean, or a missing entity, an overflow or a failed extension call
abbrev pub IsBooleanOrAllowed : Outcome → Type 0
IsBooleanOrAllowed o = IsSafe o × OnValue IsBoolean o

-- the promise of a check on the outcome of the condition
abbrev pub Promises : Verdict → Outcome → Type 0
-- a success: a boolean or an allowed failure
Promises (succeeds e) o = IsBooleanOrAllowed o
-- a condition that is never true: a value, if there is one, is false
Promises (irrelevant es e) o = OnValue IsFalse o
-- a refused condition: nothing
Promises (fails es) o = Unit {0}

-- the promise is kept in each world of a reliable setting in which the slots of the condition are
-- bound
abbrev pub IsSoundPolicyCheck : Setting → Source → Verdict → Type 0
IsSoundPolicyCheck s e v =
    IsReliable s
    → (world : World) → IsWorldOf s world → SlotsBound world.slots e
    → Promises v (eval world e)
