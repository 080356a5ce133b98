-- Forms with one operand in the program: typing the operand and then the whole is inference.
use Rattle.std.proofs.Common.{◌≡◌, List, Option, Some, ◌∙◌, ap}
use Rattle.cedar_types.specs.declared.base.location.Loc.{Loc}
use Rattle.cedar_types.specs.Types.{Ty}
use Rattle.cedar_types.specs.Errors.{Finding}
use Rattle.cedar_typing.specs.Eager.{Form, first_expectation}
use Rattle.cedar_typing.specs.Infer.Eager.{OperandsAndErrors, infer_none, expect_operand}
use Rattle.cedar_typing.specs.Infer.Eager.{infer_rest, infer_form, infer_of_one, infer_one_operand}
use Rattle.cedar_typing.specs.Infer.Parts.{Part, AnswerAndErrors, PartAndErrors, expect}
use Rattle.cedar_typing.specs.TypeEnv.{TypeEnv}

pub one_found : (env : TypeEnv) (f : Form) (l : Option Loc) (operand : List Finding → AnswerAndErrors)
    (ts : List Ty) → first_expectation f.expects ≡ Some ts → (p : Option Part) (es es' : List Finding)
    → expect env ts l (operand es) ≡ (p, es')
    → infer_one_operand env f l operand es ≡ infer_of_one f p es'
one_found env f l operand ts first p es es' h =
    let found : expect_operand env (first_expectation f.expects) l (operand es) ≡ (p, es') =
    ap (λ q. expect_operand env q l (operand es)) first ∙ h in
    ap (λ (o : OperandsAndErrors). infer_form f o.0 o.1)
    (ap (λ (o : PartAndErrors). infer_rest f.goes_on o.0 o.1 infer_none) found)
