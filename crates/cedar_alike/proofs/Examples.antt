-- The examples of parts of an environment that decide a type.
use Rattle.std.proofs.Common.{refl}
use Rattle.cedar_typing.proofs.Examples.Rules.{is_typed}
use Rattle.cedar_alike.specs.Examples.{EachPartDecides}

pub each_part_decides : EachPartDecides
each_part_decides = record {
  principals = record { one = is_typed refl; other = is_typed refl };
  resources = record { one = is_typed refl; other = is_typed refl };
  contexts = record { one = is_typed refl; other = is_typed refl };
  action_types = record { one = is_typed refl; other = is_typed refl };
  equal_actions = record { one = is_typed refl; other = is_typed refl };
  actions_within = record { one = is_typed refl; other = is_typed refl };
  principal_slots = record { one = is_typed refl; other = is_typed refl };
  resource_slots = record { one = is_typed refl; other = is_typed refl };
}
