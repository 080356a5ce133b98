use Rattle.std.proofs.Common.{ap}
use Rattle.cedar_calls.proofs.OneMore.{one_more_each, one_more_right}
use Rattle.cedar_verdicts.specs.Verdicts.{basis_of}
use Rattle.cedar_calls.specs.Answers.{IsRightAnswer, IsWholeAnswer}
use Rattle.cedar_calls.specs.declared.answered.Answered.{Answered}
use Rattle.cedar_calls.specs.declared.given.Given.{Given}
use Rattle.cedar_calls.proofs.answered.judge_all.Goals as goal

pub loop-policy-preserved : goal.loop-policy-preserved
loop-policy-preserved g c =
    let b = basis_of g.C.ArgumentCheck.refusal c.args.settings.now in
    let level = c.args.settings.now.level in
    let answer = c.in_ok-answer.answer in
    let said = c.in_ok-answer.ensures in
    let about : Answered → Given = λ a. a.given.now in
    let old = c.loop-policy.all.items in
    let pushed = c.in_ok-push.ensures.items in
    let inv = c.loop-policy.invariant in
    record {
      each =
          one_more_each about c.args.given.now c.loop-policy.policy-index c.policy-item.result old _
          answer pushed inv.each (ap (λ p. p.now) said.given) c.loop-policy-test.true c.policy-item.is;
      right = one_more_right (IsRightAnswer b level) old _ answer pushed inv.right said.right;
      whole = one_more_right (IsWholeAnswer b level) old _ answer pushed inv.whole said.whole;
    }
