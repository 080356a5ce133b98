use Rattle.cedar_types.specs.Environments.RequestEnvs.{env_of}
use Rattle.cedar_typing.specs.Views.Checks.{verdict_of}
use Rattle.cedar_typechecker.proofs.Surveyed.Growth.{takes_checked}
use Rattle.cedar_typechecker.proofs.survey.Survey.take_in_env.Goals as goal

pub returns-clause-surveys : goal.returns-clause-surveys
returns-clause-surveys g c b t on =
    takes_checked b t c.args.schema.now on.by_schema c.args.self.now c.take_in.new.self (env_of c.args.env.now)
    (verdict_of c.in_ok-check.check) (on.are_on (env_of c.args.env.now) (verdict_of c.in_ok-check.check) c.in_ok-check.ensures)
    c.in_ok-take_in.ensures.surveys
