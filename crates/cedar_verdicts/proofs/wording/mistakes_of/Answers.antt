use Rattle.std.proofs.Common.{◌≡◌, ◌∙◌, ◌++◌, ◌∷◌, refl, sym, ap}
use Rattle.std.specs.List.{flat_map, list_all}
use Rattle.cedar_verdicts.specs.Mistakes.{causes_in, is_error, is_one_mistake}
use Rattle.cedar_verdicts.proofs.Members.{next_taken}
use Rattle.cedar_verdicts.proofs.Mistakes.{begun, grown, one_more}
use Rattle.cedar_verdicts.proofs.wording.mistakes_of.Goals as goal
use Rattle.cedar_verdicts.proofs.wording.mistakes_of.Goals.{then-is_same_mistake+in_ok-push, else-is_same_mistake+in_ok-push-2}

pub loop-cause-preserved : goal.loop-cause-preserved
loop-cause-preserved c =
    let i = c.loop-cause.cause-index in
    let cause = c.cause-item.result in
    let ms = c.loop-cause.mistakes.items in
    let m = c.loop-cause.mistake in
    let inv = c.loop-cause.invariant in
    let one = next_taken c.in-Some.rest.now i cause c.loop-cause-test.true c.cause-item.is in
    let longer = ap (λ ts. c.new-mistake.result.first ∷ ts) (sym one) in
    elim c.if-is_same_mistake.branch [
      | then-is_same_mistake+in_ok-push w ↦ record {
        all =
            (λ k. flat_map causes_in (w.mistakes-is k).items ++ causes_in (w.mistake-is k))
            ∙ grown ms m (record m { others = w.push.new.self }) cause _ refl w.in_ok-push.ensures.items inv.all ∙ longer;
        each = ap (λ v. list_all is_one_mistake v.items) w.mistakes-is ∙ inv.each;
        last =
            ap is_one_mistake w.mistake-is
            ∙ one_more is_error m.others.items _ cause w.in_ok-push.ensures.items inv.last
            (c.is_same_mistake.ensures w.if-is_same_mistake.true);
      }
      | else-is_same_mistake+in_ok-push-2 w ↦ record {
        all =
            (λ k. flat_map causes_in (w.mistakes-is k).items ++ causes_in (w.mistake-is k))
            ∙ begun ms _ m w.new-mistake-else-is_same_mistake.result cause _ w.in_ok-push-2.ensures.items w.new-mistake-else-is_same_mistake.ensures.first
            w.new-mistake-else-is_same_mistake.ensures.alone inv.all ∙ longer;
        each =
            ap (λ v. list_all is_one_mistake v.items) w.mistakes-is
            ∙ one_more is_one_mistake ms _ m w.in_ok-push-2.ensures.items inv.each inv.last;
        last = ap is_one_mistake w.mistake-is ∙ ap (list_all is_error) w.new-mistake-else-is_same_mistake.ensures.alone;
      }
    ]
