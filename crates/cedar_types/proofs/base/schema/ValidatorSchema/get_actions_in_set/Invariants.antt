use Rattle.std.proofs.Common.{◌≡◌, true, take, map}
use Rattle.std.specs.List.{list_all}
use Rattle.cedar_types.specs.Names.{Uid, uid_of}
use Rattle.cedar_types.specs.Schemas.{declares_action, uid_is_among}
use Rattle.cedar_types.specs.Schemas.Listings.{actions_within}
use Rattle.cedar_types.specs.Schemas.Contents.{schema_of}
use Rattle.cedar_types.proofs.base.schema.ValidatorSchema.get_actions_in_set.Given as goal

-- The actions so far are declared, and the set has them and their descendants
abbrev pub invariant-loop-action : goal.invariant-loop-action
invariant-loop-action l = record {
  known : list_all (declares_action (schema_of l.self).actions) (map uid_of (take l.action-index l.actions)) ≡ true;
  members : (u : Uid) → uid_is_among (map (λ k. uid_of k.now) l.within.keys) u
      ≡ uid_is_among (actions_within (schema_of l.self).actions (map uid_of (take l.action-index l.actions))) u;
}
