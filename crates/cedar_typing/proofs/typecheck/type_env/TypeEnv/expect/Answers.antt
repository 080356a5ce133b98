use Rattle.std.proofs.Common.{◌∙◌}
use Rattle.cedar_typing.specs.Views.{env_at, expected_types}
use Rattle.cedar_typing.proofs.Views.Parts.{part_is_expected}
use Rattle.cedar_typing.proofs.typecheck.type_env.TypeEnv.expect.Goals as goal

pub returns : goal.returns
returns c =
    part_is_expected (env_at c.args.self.now) (expected_types c.args.expected)
    c.args.loc c.args.answer c.into_part.result c.in-Some.part _ c.into_part.ensures.seen c.in-Some.is
    ∙ c.in_ok-expect_part.ensures
