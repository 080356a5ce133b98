use Rattle.std.proofs.Common.{Bool, ◌∙◌, ap, subst}
use Rattle.cedar_types.specs.Templates.{template_of}
use Rattle.cedar_verdicts.specs.Ids.{has_id}
use Rattle.cedar_verdicts.specs.Verdicts.{basis_of, IsWholeVerdict}
use Rattle.cedar_verdicts.proofs.sets.SetJudge.judge_marked.Goals as goal

pub returns-clause-whole : goal.returns-clause-whole
returns-clause-whole g c =
    let b = basis_of g.C.ArgumentCheck.refusal c.args.settings.now in
    let t = template_of c.args.policy.now in
    let Whole : Bool → Type 0 = λ r. IsWholeVerdict b c.args.settings.now.level t r c.in_ok-verdict.verdict in
    subst Whole (c.in_ok-same_id.ensures.same ∙ c.in_ok-first.ensures.known) c.in_ok-verdict.ensures.whole
