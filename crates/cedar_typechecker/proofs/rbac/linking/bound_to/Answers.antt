use Rattle.std.proofs.Common.{◌∙◌, ap, sym, option_map}
use Rattle.cedar_types.specs.Names.{PlacedUid, placed_uid}
use Rattle.cedar_types.proofs.Schema.Places.{map_twice}
use Rattle.cedar_types.proofs.Slots.{bound_is}
use Rattle.cedar_typechecker.proofs.rbac.linking.bound_to.Goals as goal

pub returns : goal.returns
returns c =
    map_twice (λ u. u.now) placed_uid c.get.result
    ∙ ap (option_map {U = PlacedUid} placed_uid) (c.get.ensures.value ∙ sym (bound_is c.args.slot c.args.slots.now.entries))
