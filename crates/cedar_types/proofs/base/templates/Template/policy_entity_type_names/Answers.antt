use Rattle.std.proofs.Common.{◌≡◌, map, ◌∙◌, rules}
use Rattle.cedar_types.specs.Templates.Mentions.{mentioned_type, template_mentions}
use Rattle.cedar_types.specs.Names.{placed_type}
use Rattle.cedar_types.specs.Templates.{template_of}
use Rattle.cedar_types.proofs.Mentions.{types_are_those_mentioned}
use Rattle.cedar_types.proofs.base.templates.Template.policy_entity_type_names.Goals as goal

pub returns : goal.returns
returns c =
    let t = template_of c.args.self.now in
    let all : map (λ x. placed_type x.now) c.loop-mention.types.items
    ≡ map mentioned_type (template_mentions t) = search rules in
    all ∙ types_are_those_mentioned t
