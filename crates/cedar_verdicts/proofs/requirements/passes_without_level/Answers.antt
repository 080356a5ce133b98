use Rattle.std.proofs.Common.{◌∙◌, sym}
use Rattle.cedar_verdicts.proofs.requirements.passes_without_level.Goals as goal

pub returns-clause-refused : goal.returns-clause-refused
returns-clause-refused g c =
    let exact = c.in_ok-found.ensures.exact in
    λ passes refused. (exact.0, exact.1, sym exact.2.accepted ∙ passes)
