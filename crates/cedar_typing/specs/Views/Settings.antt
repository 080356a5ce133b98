-- Settings of the program's checkers, and inference by the forms of the program.
use Rattle.std.specs.Prelude.{ℕ, ◌+◌, List, Option}
use Rattle.cedar_types.specs.declared.base.location.Loc.{Loc}
use Rattle.cedar_types.specs.Errors.{Finding}
use Rattle.cedar_types.specs.Extensions.Functions.{Refusals}
use Rattle.cedar_types.specs.Extensions.{functions_of}
use Rattle.cedar_types.specs.Expressions.View.{Written, written}
use Rattle.cedar_typing.specs.Capabilities.{Caps}
use Rattle.cedar_typing.specs.Capabilities.Priors.{known_in}
use Rattle.cedar_typing.specs.Eager.{Form}
use Rattle.cedar_typing.specs.Infer.{infer}
use Rattle.cedar_typing.specs.Infer.Eager.{infer_one_operand, infer_two_operands}
use Rattle.cedar_typing.specs.Infer.Parts.{AnswerAndErrors, expect, after}
use Rattle.cedar_typing.specs.Infer.ShortCircuit.{infer_right}
use Rattle.cedar_typing.specs.Rules.ShortCircuit.{Connective}
use Rattle.cedar_typing.specs.Setting.{Setting}
use Rattle.cedar_typing.specs.TypeTests.{bool_types}
use Rattle.cedar_typing.specs.TypedExpr.{Source, place_of}
use Rattle.cedar_typing.specs.Views.{env_at, at, form_of_one, form_of_two}
use Rattle.cedar_typing.specs.declared.typecheck.prior.Prior.{Prior}
use Rattle.cedar_typing.specs.declared.typecheck.rules.decisions.Operands.{Operands}
use Rattle.cedar_typing.specs.declared.typecheck.rules.one_operand.OneOperand.{OneOperand}
use Rattle.cedar_typing.specs.declared.typecheck.rules.two_operands.TwoOperands.{TwoOperands}
use Rattle.cedar_typing.specs.declared.typecheck.single_env.SingleEnvTypechecker.{SingleEnvTypechecker}
use Rattle.cedar_typing.specs.declared.typecheck.type_env.TypeEnv.{TypeEnv}

-- the setting of a checker. `meaning` gives the meaning of each check of arguments
abbrev pub setting_at : {C : Type 0} → (C → Refusals) → SingleEnvTypechecker C → Setting
setting_at meaning c =
    record { env = env_at c.env; functions = functions_of meaning c.extensions.now }

abbrev pub infer_connective : Setting → Connective → Written → Source → Source → Caps → ℕ
    → List Finding → AnswerAndErrors
infer_connective s f m a b prior d es =
    after (expect s.env bool_types (place_of a) (infer s a prior (d + 1) es))
    (λ p es'. infer_right s.env f m (place_of b) prior p es' (λ known. infer s b known (d + 1)))

abbrev pub infer_one : Setting → Written → Caps → Source → ℕ → OneOperand
    → List Finding → AnswerAndErrors
infer_one s m prior e d form =
    infer_one_operand s.env (form_of_one s.env m prior e form) (place_of e)
    (infer s e prior (d + 1))

abbrev pub infer_two : Setting → Written → Source → Source → Caps → ℕ → TwoOperands
    → List Finding → AnswerAndErrors
infer_two s m a b prior d form =
    infer_two_operands s.env (form_of_two s.env m prior a b form) (place_of a) (place_of b)
    (infer s a prior (d + 1)) (infer s b prior (d + 1))

-- the form of a checker with two operands at a place
abbrev pub form_with : TypeEnv → Option Loc → Prior → Operands → TwoOperands → Form
form_with env l prior o form =
    form_of_two (env_at env) (at l) (known_in prior) (written o.left.now) (written o.right.now) form
