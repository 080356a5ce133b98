use Rattle.std.proofs.Common.{◌∙◌}
use Rattle.cedar_typing.specs.Answer.{answer_where}
use Rattle.cedar_typing.proofs.typecheck.answer.TypecheckAnswer.sequence_all_then_typecheck.Goals as goal

pub returns : goal.returns
returns g c =
    let k = c.in_ok-handed.ensures in (
      c.into_iter.result,
      c.into_iter.ensures.into_iter_gives,
      record {
        taken = k.taken;
        handed = c.in_ok-handed.field-0.handed;
        in_order = k.in_order;
        answer = c.in_ok-answer.answer;
        called = c.in_ok-answer.ensures;
        adjusts = c.adjusted.ensures ∙ (λ i. answer_where (k.is_limit i) (k.succeeded i) c.in_ok-answer.answer);
      },
    )
