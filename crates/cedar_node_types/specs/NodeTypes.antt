-- The types at the nodes of typed copies, for a compiler that goes on with them: each node has a type,
-- and a node that evaluation reaches evaluates to a value of its type.
use Rattle.std.specs.Prelude.{◌≡◌, ℕ, true, false, List, Some, None, All}
use Rattle.cedar_types.specs.Errors.{Finding}
use Rattle.cedar_types.specs.Expressions.Parts.{subexpressions}
use Rattle.cedar_types.specs.Extensions.Functions.{table_fault}
use Rattle.cedar_types.specs.Schemas.{has_fault}
use Rattle.cedar_types.specs.Types.{Ty}
use Rattle.cedar_typing.specs.Capabilities.{Caps}
use Rattle.cedar_typing.specs.Evaluation.Eval.{eval}
use Rattle.cedar_node_types.specs.Reached.{Reaches}
use Rattle.cedar_typing.specs.Evaluation.World.{World}
use Rattle.cedar_typing.specs.Modes.{IsFormedFor}
use Rattle.cedar_typing.specs.PolicyCheck.{Verdict, succeeds, irrelevant, fails, PolicyChecks}
use Rattle.cedar_typing.specs.PolicyCheck.Outcome.{passes}
use Rattle.cedar_typing.specs.Rules.{Derives, Recovers}
use Rattle.cedar_typing.specs.Setting.{Setting}
use Rattle.cedar_typing.specs.Silence.{IsSettled, IsWellNamed}
use Rattle.cedar_typing.specs.Soundness.{HasFound, IsReliable, IsWorldOf, InReliableWorlds}
use Rattle.cedar_typing.specs.TypedExpr.{Source, TypedTree, annotation}
pub mod Policies

-- ---- trees

-- the root of the tree has a type
abbrev pub IsTyped : TypedTree → Type 0
IsTyped x = (t : Ty) × (annotation x ≡ Some t)

-- each node of the tree, at any depth, has one
abbrev pub HasTypes : TypedTree → Type 0
HasTypes x = All IsTyped (subexpressions x)

-- the reached nodes fit: if a node that evaluation reaches evaluates to a value, the value is of the type
-- of the node
abbrev pub ReachedFitTypes : World → TypedTree → Type 0
ReachedFitTypes world x =
    (y : TypedTree) → Reaches world x y → HasFound (annotation y) (eval world y)

-- ---- the typed copies of an expression that has a type

-- each node of the typed copy of an expression that has a type has a type, whatever is known and at any
-- depth
abbrev pub CopiesHaveTypes : Type 0
CopiesHaveTypes =
    (s : Setting) (e : Source) (prior : Caps) (d : ℕ) (t : Ty) (c : Caps) (x : TypedTree)
    → Derives s e prior d t c x → HasTypes x

-- the reached nodes of the typed copies of an expression fit: of an expression that has a type, and of a
-- refused one, some of whose nodes may lack a type
pub record ReachedFitInCopies (s : Setting) (world : World) (e : Source) (prior : Caps) (d : ℕ) :
    Type 0 where
  pub derived : (t : Ty) (c : Caps) (x : TypedTree)
      → Derives s e prior d t c x → ReachedFitTypes world x
  pub recovered : (x : TypedTree) (es : List Finding)
      → Recovers s e prior d x es → ReachedFitTypes world x

-- the reached nodes of typed copies fit in each world of a reliable setting
abbrev pub CopiesFitTypes : Type 0
CopiesFitTypes = InReliableWorlds ReachedFitInCopies

-- ---- the check of a condition in one environment

-- P holds of the typed condition of a verdict, if it has one
abbrev pub OnTypedCondition : (TypedTree → Type 0) → Verdict → Type 0
OnTypedCondition P (succeeds x) = P x
OnTypedCondition P (irrelevant es x) = P x
OnTypedCondition P (fails es) = Unit {0}

-- each node of the typed condition of a success has a type
abbrev pub SuccessesHaveTypes : Type 0
SuccessesHaveTypes =
    (s : Setting) (e : Source) (x : TypedTree) → PolicyChecks s e (succeeds x) → HasTypes x

-- each node of the typed condition of a check that passes has a type, also if the condition is never
-- true, provided that nothing in it is unknown
abbrev pub PassingHaveTypes : Type 0
PassingHaveTypes =
    (s : Setting) → IsSettled s → (e : Source) → IsWellNamed s.env.schema e
    → (v : Verdict) → PolicyChecks s e v → passes v ≡ true → OnTypedCondition HasTypes v

-- the reached nodes of the typed condition of a check fit in each world of a reliable setting, whether
-- or not the condition passes: slots that are linked to no type need not be bound
abbrev pub ChecksFitTypes : Type 0
ChecksFitTypes =
    (s : Setting) (e : Source) (v : Verdict)
    → has_fault s.env.schema ≡ false → IsFormedFor s.env.mode s.env.schema
    → table_fault s.functions ≡ None
    → PolicyChecks s e v
    → IsReliable s → (world : World) → IsWorldOf s world
    → OnTypedCondition (ReachedFitTypes world) v
