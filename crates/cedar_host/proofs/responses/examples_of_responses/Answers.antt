use Rattle.std.proofs.Common.{refl}
use Rattle.cedar_host.proofs.responses.examples_of_responses.Goals as goal

pub returns : goal.returns
returns c = record {
  none = refl;
  not_permitted = refl;
  permitted = refl;
  not_forbidden = refl;
  forbidden = refl;
  forbidden_first = refl;
  failing_permit = refl;
  failing_forbid = refl;
  two_permits = refl;
  second_permit = refl;
  two_forbids = refl;
  two_errors = refl;
}
