-- Examples of the promises of the check of an expression.
use Rattle.std.proofs.Common.{refl, sym}
use Rattle.std.specs.Prelude.{codes}
use Rattle.cedar_types.specs.declared.base.expressions.operators.Var.{Var}
use Rattle.cedar_types.specs.Capability.{attribute}
use Rattle.cedar_types.specs.Expressions.Tree.{var, record_of, no_fields}
use Rattle.cedar_typing.specs.Evaluation.Conformance.{AllHold}
use Rattle.cedar_typing.specs.Examples.Expressions.{principal}
use Rattle.cedar_typing.specs.Examples.Greeting.{greeting}
use Rattle.cedar_typing.specs.Examples.Rules.{marked_principal}
use Rattle.cedar_typing.proofs.Examples.TypedCopies.{apart, not_true}
use Rattle.cedar_typing.proofs.Examples.World.{sample_reliable, greeting_conforms}
use Rattle.cedar_typing.proofs.Soundness.Capabilities.{hold_just}
use Rattle.cedar_examples.specs.ExpressionPromises.{SuccessExamples, FailureExamples, AnswerExamples}

alice_is_marked : AllHold greeting marked_principal
alice_is_marked = hold_just greeting (attribute principal (codes "vip")) refl

pub success_examples : SuccessExamples
success_examples = record {
  kept = record { typed = refl; safe = tt; known = λ h. alice_is_marked; same = refl };
  another_type = λ p. p.typed;
  wrong = λ p. p.safe;
  not_known = λ p. not_true (p.known refl (attribute (var tt Var.Resource) (codes "vip")) refl);
  untrue = record { typed = tt; safe = tt; known = λ h. absurd h; same = refl };
  another_copy = λ p. apart _ _ (sym p.same) refl not_true;
}

pub failure_examples : FailureExamples
failure_examples = record {
  kept = record { typed = tt; same = refl };
  another_type = λ p. p.typed;
  another_copy = λ p. apart _ _ (sym p.same) refl not_true;
}

pub answer_examples : AnswerExamples
answer_examples = record {
  known = λ promise. (promise sample_reliable greeting greeting_conforms (tt, tt) alice_is_marked).safe;
  not_known = λ r world w b held. absurd (not_true (held (attribute (record_of tt no_fields) (codes "vip")) refl));
}
