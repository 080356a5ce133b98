use Rattle.std.proofs.Common.{option_map, sym, ap, ◌∙◌}
use Rattle.cedar_types.specs.Names.{type_of}
use Rattle.cedar_typing.specs.Rules.Leaves.{linked_ty}
use Rattle.cedar_alike.proofs.Alike.Environments.{types, types_at, principal_slot_is, resource_slot_is, by_names}
use Rattle.cedar_alike.proofs.environments.same_slot.Goals as goal

pub returns-in-Principal : goal.returns-in-Principal
returns-in-Principal c =
    let o = c.principal_slot in
    let o' = c.principal_slot-in-Principal in
    rw c.in-Principal.is
    (by_names c.same_type.result (types o.result) (types o'.result) _ _
    (principal_slot_is c.args.one.now ∙ ap linked_ty (ap (option_map type_of) (sym o.ensures) ∙ sym (types_at o.result)))
    (principal_slot_is c.args.other.now ∙ ap linked_ty (ap (option_map type_of) (sym o'.ensures) ∙ sym (types_at o'.result)))
    c.same_type.ensures)

pub returns-in-Resource : goal.returns-in-Resource
returns-in-Resource c =
    let o = c.resource_slot in
    let o' = c.resource_slot-in-Resource in
    rw c.in-Resource.is
    (by_names c.same_type-in-Resource.result (types o.result) (types o'.result) _ _
    (resource_slot_is c.args.one.now ∙ ap linked_ty (ap (option_map type_of) (sym o.ensures) ∙ sym (types_at o.result)))
    (resource_slot_is c.args.other.now ∙ ap linked_ty (ap (option_map type_of) (sym o'.ensures) ∙ sym (types_at o'.result)))
    c.same_type-in-Resource.ensures)
