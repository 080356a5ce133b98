-- Inference for all forms whose operands are typed first.
use Rattle.std.specs.Prelude.{Bool, true, false, ◌&&◌, List, [], ◌∷◌, ◌++◌, Option, Some, None}
use Rattle.cedar_types.specs.declared.base.location.Loc.{Loc}
use Rattle.cedar_types.specs.Types.{Ty}
use Rattle.cedar_types.specs.Errors.{Finding}
use Rattle.cedar_typing.specs.Eager.{Expectation, Decision, gives, refuses, Form, first_expectation, later_expectations, types_found}
use Rattle.cedar_typing.specs.Infer.Parts.{failure, limit, Part, AnswerAndErrors, PartAndErrors, answer_if, expect, any_part}
use Rattle.cedar_typing.specs.TypeEnv.{TypeEnv}
use Rattle.cedar_typing.specs.TypedExpr.{TypedTree, typed, typed_as}

-- the result of operands
pub data Operands : Type 0 where
  -- whether all succeeded, and their typed copies
  all_typed : Bool → List TypedTree → Operands
  -- an operand is too deep: the typed copies of those before it
  cut_after : List TypedTree → Operands

abbrev pub OperandsAndErrors : Type 0
OperandsAndErrors = Operands × List Finding

-- ---- operands, one after another

-- no operand
abbrev pub infer_none : List Finding → OperandsAndErrors
infer_none es = (all_typed true [], es)

-- the part of an operand, by its expectation. Without one the operand may be anything
abbrev pub expect_operand : TypeEnv → Expectation → Option Loc → AnswerAndErrors → PartAndErrors
expect_operand env None l o = any_part o
expect_operand env (Some ts) l o = expect env ts l o

abbrev pub with_operand : Part → Operands → Operands
with_operand p (all_typed later xs) = all_typed (later && p.succeeded) (p.tree ∷ xs)
with_operand p (cut_after xs) = cut_after (p.tree ∷ xs)

-- the result of an operand that is typed or too deep, and of those after it
abbrev pub infer_rest : Bool → Option Part → List Finding → (List Finding → OperandsAndErrors)
    → OperandsAndErrors
infer_rest goes_on (Some p) es rest = (with_operand p (rest es).0, (rest es).1)
infer_rest true None es rest = (cut_after [], (rest es).1)
infer_rest false None es rest = (cut_after [], es)

abbrev pub infer_one_more : TypeEnv → Bool → Expectation → Option Loc
    → (List Finding → AnswerAndErrors) → (List Finding → OperandsAndErrors)
    → List Finding → OperandsAndErrors
infer_one_more env goes_on q l first rest es =
    infer_rest goes_on
    (expect_operand env q l (first es)).0 (expect_operand env q l (first es)).1 rest

-- ---- the whole

-- the type of the whole, from the table's type and from whether all operands succeeded
abbrev pub type_given : Form → Bool → Ty → Ty
type_given f true t = t
type_given f false t = f.type_if_failed t

-- the answer for the whole, by the table's decision
abbrev pub infer_decided : Form → Bool → List TypedTree → List Finding → Decision → AnswerAndErrors
infer_decided f succeeded xs es (gives t c) =
    (answer_if succeeded (f.node (typed (type_given f succeeded t) f.at) xs) c, es)
infer_decided f succeeded xs es (refuses t fs) = (failure (f.node (typed_as t f.at) xs), es ++ fs)

-- the answer for the whole, by the result of its operands
abbrev pub infer_form : Form → Operands → List Finding → AnswerAndErrors
infer_form f (all_typed succeeded xs) es =
    infer_decided f succeeded xs es (f.decides (types_found xs))
infer_form f (cut_after xs) es = (limit, es ++ f.at_limit (types_found xs))

abbrev pub infer_eager : Form → (List Finding → OperandsAndErrors) → List Finding → AnswerAndErrors
infer_eager f operands es = infer_form f (operands es).0 (operands es).1

-- the answer for the whole, by the result of its one operand
abbrev pub infer_of_one : Form → Option Part → List Finding → AnswerAndErrors
infer_of_one f p = infer_eager f (λ es. infer_rest f.goes_on p es infer_none)

-- a form with one operand, at l
abbrev pub infer_one_operand : TypeEnv → Form → Option Loc
    → (List Finding → AnswerAndErrors) → List Finding → AnswerAndErrors
infer_one_operand env f l operand =
    infer_eager f (infer_one_more env f.goes_on (first_expectation f.expects) l operand infer_none)

-- a form with two operands, at l and at l'
abbrev pub infer_two_operands : TypeEnv → Form → Option Loc → Option Loc
    → (List Finding → AnswerAndErrors) → (List Finding → AnswerAndErrors)
    → List Finding → AnswerAndErrors
infer_two_operands env f l l' left right =
    infer_eager f
    (infer_one_more env f.goes_on (first_expectation f.expects) l left
    (infer_one_more env f.goes_on (first_expectation (later_expectations f.expects)) l' right
    infer_none))

-- a form with any number of operands
abbrev pub infer_operand_list : Form → (Bool → List Expectation → List Finding → OperandsAndErrors)
    → List Finding → AnswerAndErrors
infer_operand_list f operands = infer_eager f (operands f.goes_on f.expects)
