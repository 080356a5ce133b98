-- A typed copy means its expression: it evaluates to the very same outcome.
use Rattle.std.specs.Prelude.{◌≡◌, ℕ, false, List, None}
use Rattle.cedar_types.specs.Errors.{Finding}
use Rattle.cedar_types.specs.Extensions.Functions.{table_fault}
use Rattle.cedar_types.specs.Schemas.{has_fault}
use Rattle.cedar_types.specs.Expressions.Tree.{map_tree}
use Rattle.cedar_types.specs.Types.{Ty}
use Rattle.cedar_typing.specs.Capabilities.{Caps}
use Rattle.cedar_typing.specs.Evaluation.Eval.{eval}
use Rattle.cedar_typing.specs.Evaluation.World.{World}
use Rattle.cedar_typing.specs.Modes.{IsFormedFor}
use Rattle.cedar_typing.specs.PolicyCheck.{Verdict, succeeds, irrelevant, fails, PolicyChecks}
use Rattle.cedar_typing.specs.Rules.{Derives, Recovers}
use Rattle.cedar_typing.specs.Setting.{Setting}
use Rattle.cedar_typing.specs.Soundness.{IsReliable, IsWorldOf, InReliableWorlds}
use Rattle.cedar_typing.specs.TypedExpr.{Source, TypedTree, Mark}
pub mod Policies

-- ---- an expression

-- the copy evaluates as the expression does, to one value or one failure. Evaluation looks at no
-- mark of a tree
abbrev pub EvaluatesAs : World → TypedTree → Source → Type 0
EvaluatesAs world x e = eval world x ≡ eval world e

-- a copy as an expression, without the types that were found
abbrev pub untyped_copy : TypedTree → Source
untyped_copy = map_tree (λ (m : Mark). m.at)

-- it evaluates to the same
abbrev pub TypesDoNotMatter : Type 0
TypesDoNotMatter = (world : World) (x : TypedTree) → EvaluatesAs world x (untyped_copy x)

-- so does each typed copy of it, where some capabilities are known
pub record MeansTheSame (s : Setting) (world : World) (e : Source) (prior : Caps) (d : ℕ) : Type 0 where
  -- that of an expression that has a type
  pub derived : (t : Ty) (c : Caps) (x : TypedTree) → Derives s e prior d t c x → EvaluatesAs world x e
  -- and that of a refused one
  pub recovered : (x : TypedTree) (es : List Finding) → Recovers s e prior d x es → EvaluatesAs world x e

-- in each world of a reliable setting
abbrev pub CopiesMeanTheSame : Type 0
CopiesMeanTheSame = InReliableWorlds MeansTheSame

-- ---- the check of a condition in one environment

-- the typed condition of a check evaluates as the condition does: that of a success, and that of
-- one that is never true, with errors or without. A failed check has none
abbrev pub VerdictMeansTheSame : World → Source → Verdict → Type 0
VerdictMeansTheSame world e (succeeds x) = EvaluatesAs world x e
VerdictMeansTheSame world e (irrelevant es x) = EvaluatesAs world x e
VerdictMeansTheSame world e (fails es) = Unit {0}

-- it is so in each world of a reliable setting: slots that are linked to no type need not be bound
abbrev pub CheckMeansTheSame : Setting → Source → Verdict → Type 0
CheckMeansTheSame s e v =
    IsReliable s
    → (world : World) → IsWorldOf s world
    → VerdictMeansTheSame world e v

-- of every check, by a schema and a table without faults
abbrev pub ChecksMeanTheSame : Type 0
ChecksMeanTheSame =
    (s : Setting) (e : Source) (v : Verdict)
    → has_fault s.env.schema ≡ false → IsFormedFor s.env.mode s.env.schema
    → table_fault s.functions ≡ None
    → PolicyChecks s e v → CheckMeansTheSame s e v
