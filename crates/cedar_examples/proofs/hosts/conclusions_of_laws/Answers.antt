use Rattle.cedar_examples.proofs.ResponseConclusions.{no_type_failures, impossible_forbids_are_not_satisfied, loaded_parts_agree, loaded_parts_respond_alike}
use Rattle.cedar_examples.proofs.hosts.conclusions_of_laws.Goals as goal

pub returns : goal.returns
returns c = record {
  failures = no_type_failures c.responses_need_slice_alone.ensures.errors;
  forbids = impossible_forbids_are_not_satisfied c.responses_need_slice_alone.ensures.impossible;
  parts = loaded_parts_agree c.loaded_is_enough.ensures.outcomes;
  responses = loaded_parts_respond_alike c.loaded_is_enough.ensures.responses;
}
