use Rattle.std.proofs.Common.{◌∙◌, refl}
use Rattle.cedar_typing.proofs.Views.Parts.{variable_answer}
use Rattle.cedar_typing.proofs.typecheck.type_env.TypeEnv.type_variable.Goals as goal

pub returns : goal.returns
returns c =
    c.in_ok-answer.ensures
    ∙ variable_answer c.in_ok-annotation.annotation c.args.loc c.args.variable _ _ refl c.in_ok-annotation.ensures
