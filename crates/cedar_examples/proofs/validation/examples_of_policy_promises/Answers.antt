use Rattle.cedar_examples.proofs.PolicyPromises.{errors_of_members, errors_beside_levels, both_halves_at_its_level, copies_of_faulty_schemas}
use Rattle.cedar_examples.proofs.validation.examples_of_policy_promises.Goals as goal

pub returns : goal.returns
returns c = record {
  members = errors_of_members;
  errors = errors_beside_levels;
  level = both_halves_at_its_level;
  copies = copies_of_faulty_schemas;
}
