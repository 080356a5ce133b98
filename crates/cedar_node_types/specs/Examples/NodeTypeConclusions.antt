-- Conclusions from the laws of the types at nodes. Each needs the whole of a law: it does not follow if
-- the law says less, for example of successes alone.
use Rattle.std.specs.Prelude.{◌≡◌, ℕ, false, List, [], None}
use Rattle.cedar_types.specs.declared.base.expressions.operators.Var.{Var}
use Rattle.cedar_types.specs.Errors.{Finding}
use Rattle.cedar_types.specs.Expressions.Tree.{and, var}
use Rattle.cedar_types.specs.Extensions.Functions.{table_fault}
use Rattle.cedar_types.specs.Schemas.{has_fault}
use Rattle.cedar_types.specs.Types.{Ty}
use Rattle.cedar_typing.specs.Capabilities.{Caps}
use Rattle.cedar_typing.specs.Evaluation.Eval.{eval}
use Rattle.cedar_typing.specs.Evaluation.World.{World}
use Rattle.cedar_typing.specs.Modes.{IsFormedFor}
use Rattle.cedar_node_types.specs.NodeTypes.{IsTyped, HasTypes, ReachedFitTypes}
use Rattle.cedar_typing.specs.PolicyCheck.{irrelevant, PolicyChecks}
use Rattle.cedar_typing.specs.Rules.{Derives, Recovers}
use Rattle.cedar_typing.specs.Setting.{Setting}
use Rattle.cedar_typing.specs.Silence.{IsSettled, IsWellNamed}
use Rattle.cedar_typing.specs.Soundness.{HasFound, IsReliable, IsWorldOf, InReliableWorlds}
use Rattle.cedar_typing.specs.TypedExpr.{Source, TypedTree, Mark, annotation}

-- the sides of a typed `&&` have types, not only the whole
abbrev pub SidesHaveTypes : Type 0
SidesHaveTypes =
    (s : Setting) (e : Source) (prior : Caps) (d : ℕ) (t : Ty) (c : Caps) (m m' m'' : Mark) (x y : Var)
    → Derives s e prior d t c (and m (var m' x) (var m'' y)) → IsTyped (var m' x) × IsTyped (var m'' y)

-- and the left one, which evaluation always reaches, evaluates to a value of its type
abbrev pub LeftSidesFitTypes : Type 0
LeftSidesFitTypes =
    InReliableWorlds
    (λ s world e prior d. (t : Ty) (c : Caps) (m : Mark) (a b : TypedTree)
    → Derives s e prior d t c (and m a b) → HasFound (annotation a) (eval world a))

-- each node of a condition that is never true has a type, if it has no error and names nothing unknown
abbrev pub ImpossibleHaveTypes : Type 0
ImpossibleHaveTypes =
    (s : Setting) → IsSettled s → (e : Source) → IsWellNamed s.env.schema e
    → (x : TypedTree) → PolicyChecks s e (irrelevant [] x) → HasTypes x

-- reached nodes fit their types in the copy of a refused expression
abbrev pub RefusedFitTypes : Type 0
RefusedFitTypes =
    InReliableWorlds
    (λ s world e prior d. (x : TypedTree) (es : List Finding)
    → Recovers s e prior d x es → ReachedFitTypes world x)

-- and in a condition that is never true and has errors
abbrev pub ErrorsFitTypes : Type 0
ErrorsFitTypes =
    (s : Setting) (e : Source) (es : List Finding) (x : TypedTree)
    → has_fault s.env.schema ≡ false → IsFormedFor s.env.mode s.env.schema
    → table_fault s.functions ≡ None
    → PolicyChecks s e (irrelevant es x)
    → IsReliable s → (world : World) → IsWorldOf s world → ReachedFitTypes world x

pub record NodeTypeConclusions : Type 0 where
  pub sides : SidesHaveTypes
  pub left_sides : LeftSidesFitTypes
  pub impossible : ImpossibleHaveTypes
  pub refused : RefusedFitTypes
  pub errors : ErrorsFitTypes
