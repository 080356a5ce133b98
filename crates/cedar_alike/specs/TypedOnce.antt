-- An expression is typed in one way in all environments that agree on what it reads.
use Rattle.std.specs.Prelude.{◌≡◌, ◌↔◌, ℕ, List, Option}
use Rattle.cedar_types.specs.Environments.RequestEnvs.{Env}
use Rattle.cedar_types.specs.Errors.{Finding}
use Rattle.cedar_typing.specs.Capabilities.{Caps}
use Rattle.cedar_typing.specs.Composition.{in_env, IsTypedAlike}
use Rattle.cedar_typing.specs.ExpressionCheck.{ExpressionChecks}
use Rattle.cedar_typing.specs.Infer.{infer}
use Rattle.cedar_typing.specs.Infer.Parts.{Answer}
use Rattle.cedar_typing.specs.PolicyCheck.{Verdict, PolicyChecks}
use Rattle.cedar_typing.specs.PolicyCheck.Trees.{HasTypedCondition}
use Rattle.cedar_typing.specs.Setting.{Setting}
use Rattle.cedar_typing.specs.TypedExpr.{Source, TypedTree}
use Rattle.cedar_alike.specs.Reads.{AgreeOn}

-- an expression has one answer in both environments, in a setting that is the same in all else
pub record IsTypedOnce (s : Setting) (r r' : Env) (e : Source) : Type 0 where
  -- inference gives one answer, with its typed copy and its capabilities, and adds the same errors in
  -- the same order, whatever is known, at any depth, and after any errors
  pub inferred : (prior : Caps) (d : ℕ) (es : List Finding)
      → infer (in_env s r) e prior d es ≡ infer (in_env s r') e prior d es
  -- the rules derive, recover and cut the expression alike
  pub judged : (prior : Caps) (d : ℕ) → IsTypedAlike (in_env s r) (in_env s r') e prior d
  -- the check of the expression has the same answers and errors
  pub expression : (prior : Caps) (a : Answer) (es : List Finding)
      → ExpressionChecks (in_env s r) e prior a es ↔ ExpressionChecks (in_env s r') e prior a es
  -- as a condition it has the same verdicts, with their typed conditions and errors
  pub condition : (v : Verdict) → PolicyChecks (in_env s r) e v ↔ PolicyChecks (in_env s r') e v
  -- and the same typed condition, even where the check fails
  pub copy : (x : Option TypedTree)
      → HasTypedCondition (in_env s r) e x ↔ HasTypedCondition (in_env s r') e x

-- environments that agree on what an expression reads have one answer, in each setting
abbrev pub AgreementIsEnough : Type 0
AgreementIsEnough =
    (s : Setting) (r r' : Env) (e : Source) → AgreeOn r r' e → IsTypedOnce s r r' e

-- an expression has one answer in both environments, in each setting
abbrev pub IsTypedOnceInAll : Env → Env → Source → Type 0
IsTypedOnceInAll r r' e = (s : Setting) → IsTypedOnce s r r' e
