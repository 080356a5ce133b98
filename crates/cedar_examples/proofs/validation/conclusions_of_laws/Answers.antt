use Rattle.cedar_examples.proofs.ModeConclusions.{copies_fail_alike, partial_finds_no_other, impossible_in_both_modes, required_in_both_modes, silent_in_both_modes}
use Rattle.cedar_examples.proofs.validation.conclusions_of_laws.Goals as goal

pub returns : goal.returns
returns c = record {
  slices = copies_fail_alike;
  partial = partial_finds_no_other;
  impossible = impossible_in_both_modes;
  required = required_in_both_modes;
  silent = silent_in_both_modes;
}
