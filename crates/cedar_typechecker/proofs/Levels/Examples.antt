-- The examples of levels compute to their results.
use Rattle.std.proofs.Common.{refl}
use Rattle.cedar_typechecker.specs.Levels.Details.{LevelDetails}
use Rattle.cedar_typechecker.specs.Levels.Rows.{LevelRows}

pub level_rows : LevelRows
level_rows = record {
  literal_base = refl;
  access_0 = refl;
  access_1 = refl;
  in_0 = refl;
  in_1 = refl;
  other_key_3 = refl;
  other_key_4 = refl;
  branches_2 = refl;
  branches_3 = refl;
  literal = refl;
  dropped = refl;
  chain_1 = refl;
  chain_2 = refl;
  costs = refl;
  long_2 = refl;
  long_greatest = refl;
  left_0 = refl;
  left_1 = refl;
  through_record_0 = refl;
  record_chain_0 = refl;
  record_chain_1 = refl;
  record_chain_2 = refl;
  irrelevant_0 = refl;
  irrelevant_1 = refl;
  scope_0 = refl;
  scope_1 = refl;
  union_2 = refl;
  union_3 = refl;
  union_chain_1 = refl;
  union_chain_2 = refl;
}

pub level_details : LevelDetails
level_details = record {
  constant_test = refl;
  dropped_branch = refl;
  test_of_target = refl;
  second_of_in = refl;
  second_of_has_tag = refl;
  second_of_get_tag = refl;
  chain_alone = refl;
  chain_and_base = refl;
  chain_within = refl;
  record_base = refl;
  other_base = refl;
  costs = refl;
  keys = refl;
  leaves = refl;
  missing_key = refl;
  unlinked_passes = refl;
  unlinked_0 = refl;
  linked_0 = refl;
  linked_1 = refl;
}
