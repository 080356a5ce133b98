use Rattle.cedar_verdicts.specs.Verdicts.{basis_of}
use Rattle.cedar_editor.proofs.Shown.{is_safe}
use Rattle.cedar_editor.proofs.checks.check_policy.Goals as goal

pub returns-in_ok-judged-in-Some-clause-safe : goal.returns-in_ok-judged-in-Some-clause-safe
returns-in_ok-judged-in-Some-clause-safe g c =
    is_safe (basis_of g.C.ArgumentCheck.refusal c.args.settings.now) c.args.settings.now.level _ c.in_ok-judged-in-Some.ensures.right
