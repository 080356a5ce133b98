-- The type of the whole is that of the table, if the form keeps it beside a failed operand.
use Rattle.std.proofs.Common.{◌≡◌, Bool, true, false, List, refl, ap}
use Rattle.cedar_types.specs.declared.base.expressions.operators.UnaryOp.{UnaryOp}
use Rattle.cedar_types.specs.Types.{Ty}
use Rattle.cedar_types.specs.Expressions.View.{Written}
use Rattle.cedar_types.specs.Errors.{Finding}
use Rattle.cedar_typing.specs.Capabilities.{Caps}
use Rattle.cedar_typing.specs.Eager.{Form, gives}
use Rattle.cedar_typing.specs.Infer.Eager.{type_given, infer_decided}
use Rattle.cedar_typing.specs.Infer.Parts.{AnswerAndErrors, answer_if}
use Rattle.cedar_typing.specs.TypeEnv.{TypeEnv}
use Rattle.cedar_typing.specs.TypedExpr.{Source, TypedTree, typed}
use Rattle.cedar_typing.specs.Views.{form_of_one}
use Rattle.cedar_typing.specs.declared.typecheck.rules.one_operand.OneOperand.{OneOperand}
use Rattle.cedar_typing.specs.declared.typecheck.rules.one_operand.OneOperand.TheVariants.{Unary, Has, Get, Like, Is, Chain}

abbrev pub Keeps : Form → Type 0
Keeps f = (t : Ty) → f.type_if_failed t ≡ t

type_is : (f : Form) → Keeps f → (succeeded : Bool) (t : Ty) → type_given f succeeded t ≡ t
type_is f k true t = refl
type_is f k false t = k t

pub given_is : (f : Form) → Keeps f → (succeeded : Bool) (xs : List TypedTree) (es : List Finding) (t : Ty) (c : Caps)
    → ◌≡◌ {A = AnswerAndErrors} (infer_decided f succeeded xs es (gives t c)) (answer_if succeeded (f.node (typed t f.at) xs) c, es)
given_is f k succeeded xs es t c = ap (λ u. (answer_if succeeded (f.node (typed u f.at) xs) c, es)) (type_is f k succeeded t)

-- each form with one operand keeps the table's type
pub one_keeps : (env : TypeEnv) (m : Written) (prior : Caps) (e : Source) (form : OneOperand) → Keeps (form_of_one env m prior e form)
one_keeps env m prior e (Unary UnaryOp.Not) t = refl
one_keeps env m prior e (Unary UnaryOp.Neg) t = refl
one_keeps env m prior e (Unary UnaryOp.IsEmpty) t = refl
one_keeps env m prior e (Has x) t = refl
one_keeps env m prior e (Get x) t = refl
one_keeps env m prior e (Like p) t = refl
one_keeps env m prior e (Is n) t = refl
one_keeps env m prior e (Chain c) t = refl
