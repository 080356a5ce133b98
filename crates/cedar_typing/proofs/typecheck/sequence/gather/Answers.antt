use Rattle.std.proofs.Common.{◌&&◌, [], ◌∷◌, ◌++◌, ap, sym, ◌∙◌, subst}
use Rattle.std.specs.Prelude.{Ok}
use Rattle.cedar_typing.specs.Answer.{AreHanded}
use Rattle.cedar_typing.specs.Views.{BecomesPart}
use Rattle.cedar_typing.proofs.Rules.Sequence.{one_more, is_limit, all_more, handed_more, none_more, drained, cut}
use Rattle.cedar_typing.proofs.typecheck.sequence.gather.Goals as goal
use Rattle.cedar_typing.proofs.typecheck.sequence.gather.Goals.{in-None, in-Some+in_ok-answer+in_default}

pub loop-answer-preserved : goal.loop-answer-preserved
loop-answer-preserved g c =
    let k = c.loop-answer.invariant in
    let more = one_more c.in_ok-answer.field-0 c.in-Some-into_part.part c.in-Some-into_part.ensures.handed in
    rw c.in_ok-answer.was
    record {
      no_limit = k.no_limit;
      hand_on = all_more c.loop-answer.yielded _ k.hand_on more.hands_on;
      handed = subst (AreHanded (c.loop-answer.yielded ++ Ok c.in_ok-answer.field-0 ∷ [])) {x = c.loop-answer.handed.items ++ (c.in-Some-into_part.part.typed, c.in-Some-into_part.part.capabilities) ∷ []} {y = c.push.new.self.items} (sym c.in_ok-push.ensures.items) (handed_more c.loop-answer.yielded _ _ _ k.handed more.handed);
      succeeded = (λ i. k.succeeded i && sym more.succeeded i) ∙ sym (none_more c.loop-answer.yielded _);
    }

pub returns : goal.returns
returns g c =
    let k = c.loop-answer.invariant in
    let y = rw c.into_iter-answer-iterator.ensures.into_iter_gives at c.loop-answer.yielded_by in
    elim c.match-next.branch [
      | in-None w ↦ drained _ _ _ _ _ _ y w.in-None.ensures.steps k.hand_on k.handed (w.is_limit-is ∙ k.no_limit) k.succeeded
      | in-Some+in_ok-answer+in_default w ↦
          let e = w.in_ok-answer.was ∙ ap Ok (is_limit w.in_ok-answer.field-0 (subst (BecomesPart w.in_ok-answer.field-0) w.in_default.is w.into_part.ensures.handed)) in
          cut _ _ _ _ _ _ _ y w.in-Some.ensures.steps e k.hand_on k.handed w.is_limit-is k.succeeded
    ]
