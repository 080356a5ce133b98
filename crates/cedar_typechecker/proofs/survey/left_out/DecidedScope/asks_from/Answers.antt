use Rattle.std.proofs.Common.{◌||◌, sym, ◌∙◌, ap}
use Rattle.std.specs.List.{list_any}
use Rattle.cedar_typing.specs.Views.EnvironmentChecks.{checks_left}
use Rattle.cedar_typechecker.specs.Surveyed.{asks_of}
use Rattle.cedar_typechecker.proofs.survey.left_out.DecidedScope.asks_from.Goals as goal

pub returns-then-asks : goal.returns-then-asks
returns-then-asks g c =
    ap (λ b. b || list_any (asks_of c.args.self.now) (checks_left c.args.checks.now)) (sym (sym c.asks.ensures ∙ c.if-asks.true))

pub returns : goal.returns
returns g c =
    c.in_ok-asked.ensures
    ∙ ap (λ b. b || list_any (asks_of c.args.self.now) (checks_left c.args.checks.now)) (sym (sym c.asks.ensures ∙ c.if-asks.false))
