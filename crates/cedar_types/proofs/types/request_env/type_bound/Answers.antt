use Rattle.std.proofs.Common.{rules, sym, ap, ◌∙◌, Some, option_map}
use Rattle.cedar_types.specs.Names.{PlacedType, placed_type}
use Rattle.cedar_types.proofs.Slots.{bound_is}
use Rattle.cedar_types.proofs.types.request_env.type_bound.Goals as goal

pub returns-in_ok-clone-in-Some : goal.returns-in_ok-clone-in-Some
returns-in_ok-clone-in-Some c =
    ap Some (search rules)
    ∙ ap (option_map {U = PlacedType} (λ u. placed_type u.entity_type))
    (c.in-Some.ensures.value ∙ sym (bound_is c.args.slot c.args.slot_env.now.entries))

pub returns-in-None : goal.returns-in-None
returns-in-None c =
    ap (option_map {U = PlacedType} (λ u. placed_type u.entity_type))
    (c.in-None.ensures.value ∙ sym (bound_is c.args.slot c.args.slot_env.now.entries))
