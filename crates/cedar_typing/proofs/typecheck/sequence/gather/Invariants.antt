use Rattle.std.proofs.Common.{◌≡◌, false}
use Rattle.cedar_typing.specs.Answer.{AllHandOn, AreHanded, none_failed}
use Rattle.cedar_typing.proofs.typecheck.sequence.gather.Given as goal

abbrev pub invariant-loop-answer : goal.invariant-loop-answer
invariant-loop-answer g l = record {
  no_limit : l.is_limit ≡ false;
  hand_on : AllHandOn l.yielded;
  handed : AreHanded l.yielded l.handed.items;
  succeeded : l.succeeded ≡ none_failed l.yielded;
}
