use Rattle.std.proofs.Common.{◌≡◌, ◌+◌, ◌<◌, length, ap, ◌∙◌, arith}
use Rattle.cedar_types.specs.Environments.RequestEnvs.{env_of}
use Rattle.cedar_typechecker.specs.Levels.Demands.{capped}
use Rattle.cedar_typechecker.specs.declared.survey.environments.Environments.{Environments}
use Rattle.cedar_typechecker.proofs.SurveyedErrors.{listing_longer, listing_full}
use Rattle.cedar_typechecker.proofs.survey.environments.Environments.add.Goals as goal
use Rattle.cedar_typechecker.proofs.survey.environments.Environments.add.Goals.{then-len-lt-MAX_ENVIRONMENTS_LISTED+in_ok-of+in_ok-push, else-len-lt-MAX_ENVIRONMENTS_LISTED}

pub returns-clause-added : goal.returns-clause-added
returns-clause-added c own h =
    let old = c.args.self.now in
    elim c.if-len-lt-MAX_ENVIRONMENTS_LISTED.branch [
      | then-len-lt-MAX_ENVIRONMENTS_LISTED+in_ok-of+in_ok-push w ↦
          let few : length old.listed.items < 5 =
          omega (arith, w.if-len-lt-MAX_ENVIRONMENTS_LISTED.true, c.len.ensures, old.listed.ok.0) in
          listing_longer own (env_of c.args.env.now) old _ h
          (c.saturating_add-self.ensures ∙ ap (λ (s : Environments). capped (s.count + 1)) w.self-is)
          w.in_ok-of.field-0 w.in_ok-of.ensures few
          (ap (λ (s : Environments). s.listed.items) w.self-is ∙ w.in_ok-push.ensures.items)
      | else-len-lt-MAX_ENVIRONMENTS_LISTED w ↦
          listing_full own (env_of c.args.env.now) old _ h
          (c.saturating_add-self.ensures ∙ ap (λ (s : Environments). capped (s.count + 1)) w.self-is)
          (λ few. omega (arith, few, w.if-len-lt-MAX_ENVIRONMENTS_LISTED.false, c.len.ensures, old.listed.ok.0))
          (ap (λ (s : Environments). s.listed.items) w.self-is)
    ]
