use Rattle.std.proofs.Common.{◌≡◌, map, ◌∙◌, rules}
use Rattle.std.specs.List.{filter_map}
use Rattle.cedar_types.specs.Templates.Mentions.{mentioned_uid, template_mentions}
use Rattle.cedar_types.specs.Names.{placed_uid}
use Rattle.cedar_types.specs.Templates.{template_of}
use Rattle.cedar_types.proofs.Mentions.{uids_are_those_mentioned}
use Rattle.cedar_types.proofs.base.templates.Template.policy_entity_uids.Goals as goal

pub returns : goal.returns
returns c =
    let t = template_of c.args.self.now in
    let all : map (λ x. placed_uid x.now) c.loop-mention.uids.items
    ≡ filter_map mentioned_uid (template_mentions t) = search rules in
    all ∙ uids_are_those_mentioned t
