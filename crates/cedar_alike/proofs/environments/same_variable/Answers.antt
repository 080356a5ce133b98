use Rattle.std.proofs.Common.{sym, ap, ◌∙◌}
use Rattle.cedar_typing.specs.Rules.Leaves.{linked_ty}
use Rattle.cedar_alike.proofs.Alike.Environments.{types, principal_is, resource_is, by_names, by_ids, by_contexts}
use Rattle.cedar_alike.proofs.environments.same_variable.Goals as goal

pub returns-in-Principal : goal.returns-in-Principal
returns-in-Principal c =
    let o = c.principal_entity_type in
    let o' = c.principal_entity_type-in-Principal in
    rw c.in-Principal.is
    (by_names c.same_type.result (types o.result) (types o'.result) _ _
    (principal_is c.args.one.now ∙ ap (λ r. linked_ty (types r)) (sym o.ensures))
    (principal_is c.args.other.now ∙ ap (λ r. linked_ty (types r)) (sym o'.ensures)) c.same_type.ensures)

pub returns-in-Action : goal.returns-in-Action
returns-in-Action c =
    rw c.in-Action.is
    (by_ids c.same_action.result c.args.one.now c.args.other.now _ _ c.action_entity_uid.ensures
    c.action_entity_uid-in-Action.ensures c.same_action.ensures)

pub returns-in-Resource : goal.returns-in-Resource
returns-in-Resource c =
    let o = c.resource_entity_type in
    let o' = c.resource_entity_type-in-Resource in
    rw c.in-Resource.is
    (by_names c.same_type-in-Resource.result (types o.result) (types o'.result) _ _
    (resource_is c.args.one.now ∙ ap (λ r. linked_ty (types r)) (sym o.ensures))
    (resource_is c.args.other.now ∙ ap (λ r. linked_ty (types r)) (sym o'.ensures)) c.same_type-in-Resource.ensures)

pub returns-in-Context : goal.returns-in-Context
returns-in-Context c =
    rw c.in-Context.is
    (by_contexts c.same_context.result c.args.one.now c.args.other.now _ _ c.declared_context.ensures
    c.declared_context-in-Context.ensures c.same_context.ensures)
