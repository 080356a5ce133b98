use Rattle.std.proofs.Common.{◌∙◌, refl}
use Rattle.cedar_typing.proofs.Views.Parts.{literal_answer}
use Rattle.cedar_typing.proofs.typecheck.type_env.TypeEnv.check_literal.Goals as goal

pub returns : goal.returns
returns c =
    c.in_ok-answer.ensures
    ∙ literal_answer c.in_ok-annotation.annotation c.args.loc c.args.literal.now c.in_ok-clone.field-0 _ _ refl
    c.in_ok-clone.ensures.cases.0 c.in_ok-clone.ensures.cases.1 c.in_ok-annotation.ensures
