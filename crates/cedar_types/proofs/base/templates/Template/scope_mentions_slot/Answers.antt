use Rattle.std.proofs.Common.{sym, ◌∙◌}
use Rattle.cedar_types.specs.Templates.{template_of}
use Rattle.cedar_types.proofs.Linking.Mentions.{principal_slot, resource_slot}
use Rattle.cedar_types.proofs.base.templates.Template.scope_mentions_slot.Goals as goal

pub returns-in-Principal : goal.returns-in-Principal
returns-in-Principal c =
    rw c.in-Principal.is (c.names_slot.ensures ∙ sym (principal_slot (template_of c.args.self.now)))

pub returns-in-Resource : goal.returns-in-Resource
returns-in-Resource c =
    rw c.in-Resource.is (c.names_slot-in-Resource.ensures ∙ sym (resource_slot (template_of c.args.self.now)))
