use Rattle.std.proofs.Common.{◌≡◌, ◌∙◌, ◌+◌, List, ◌∷◌, ◌++◌, [], ◌||◌, map, take, sym, ap, subst}
use Rattle.cedar_types.specs.Names.{text_eq}
use Rattle.cedar_types.specs.Templates.{template_of}
use Rattle.cedar_types.proofs.Schema.Places.{next_mapped}
use Rattle.cedar_findings.specs.declared.findings.Verdict.{Verdict}
use Rattle.cedar_verdicts.specs.Sets.{AreVerdictsOn, has_policy, none_yet}
use Rattle.cedar_verdicts.specs.Verdicts.{basis_of}
use Rattle.cedar_verdicts.proofs.OneMore.{has_one_more, with_one_more}
use Rattle.cedar_verdicts.proofs.sets.judge_set.Goals as goal

pub loop-policy-init : goal.loop-policy-init
loop-policy-init g c =
    let b = basis_of g.C.ArgumentCheck.refusal c.args.settings.now in
    record {
      known = c.new-judge.ensures;
      said =
          subst (λ (vs : List Verdict). AreVerdictsOn b c.args.settings.now.level [] vs) (sym c.in_ok-verdicts.ensures.items)
          none_yet;
    }

pub loop-policy-preserved : goal.loop-policy-preserved
loop-policy-preserved g c =
    let b = basis_of g.C.ArgumentCheck.refusal c.args.settings.now in
    let policies = c.args.policies.now in
    let i = c.loop-policy.policy-index in
    let policy = c.policy-item.result in
    let t = template_of policy in
    let before = map template_of (take i policies) in
    let one : map template_of (take (i + 1) policies) ≡ before ++ t ∷ [] = next_mapped template_of policies i policy c.loop-policy-test.true c.policy-item.is in
    let inv = c.loop-policy.invariant in
    let said = c.in_ok-judge_next.ensures in
    record {
      known = λ id.
          said.taken id ∙ ap (λ b. text_eq id t.id || b) (inv.known id)
          ∙ has_one_more before t id ∙ ap (λ ts. has_policy ts id) (sym one);
      said =
          with_one_more b c.args.settings.now.level before _ c.loop-policy.verdicts.items _ t c.in_ok-judge_next.field-0 _
          inv.said one c.in_ok-push.ensures.items (inv.known t.id) said.right said.whole;
    }
