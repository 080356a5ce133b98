use Rattle.std.proofs.Common.{◌≡◌, ◌++◌, map}
use Rattle.std.specs.List.{filter_map}
use Rattle.cedar_types.specs.Templates.Mentions.{mentioned_uid, template_mentions}
use Rattle.cedar_types.specs.Templates.MentionViews.{mentions_left}
use Rattle.cedar_types.specs.Names.{placed_uid}
use Rattle.cedar_types.specs.Templates.{template_of}
use Rattle.cedar_types.proofs.base.templates.Template.policy_entity_uids.Given as goal

-- The ids so far, and then those of the remaining mentions, are the ids of all mentions
abbrev pub invariant-loop-mention : goal.invariant-loop-mention
invariant-loop-mention l =
    map (λ u. placed_uid u.now) l.uids.items ++ filter_map mentioned_uid (mentions_left l.mention-iterator)
    ≡ filter_map mentioned_uid (template_mentions (template_of l.fn.self))
