use Rattle.cedar_host.proofs.SameResponses.{responses_need_slice_alone, errors_are_allowed, accepted_need_slice_alone}
use Rattle.cedar_host.proofs.SameResponses.{impossible_is_never_satisfied, typed_responses_are_the_same}
use Rattle.cedar_host.proofs.responses.responses_need_slice_alone.Goals as goal

pub returns : goal.returns
returns c = record {
  same = responses_need_slice_alone;
  errors = errors_are_allowed;
  accepted = accepted_need_slice_alone;
  impossible = impossible_is_never_satisfied;
  typed = typed_responses_are_the_same;
}
