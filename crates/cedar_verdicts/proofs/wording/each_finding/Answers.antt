use Rattle.std.proofs.Common.{rules}
use Rattle.cedar_verdicts.specs.Impossible.{calls_impossible}
use Rattle.cedar_verdicts.specs.Mistakes.{is_of_impossible, may_be_of_impossible}
use Rattle.cedar_verdicts.proofs.Members.{kept_any, next_taken}
use Rattle.cedar_verdicts.proofs.wording.each_finding.Goals as goal

pub loop-mistake-preserved : goal.loop-mistake-preserved
loop-mistake-preserved c =
    let ms = c.args.mistakes.now in
    let i = c.loop-mistake.mistake-index in
    let m = c.mistake-item.result in
    let one = next_taken ms i m c.loop-mistake-test.true c.mistake-item.is in
    let said = c.in_ok-finding_of.ensures in
    let inv = c.loop-mistake.invariant in
    record {
      each = search rules;
      told = kept_any is_of_impossible calls_impossible _ _ m _ _ _ one c.in_ok-push.ensures.items inv.told said.told;
      only = kept_any calls_impossible may_be_of_impossible _ _ _ _ _ m c.in_ok-push.ensures.items one inv.only said.only;
    }
