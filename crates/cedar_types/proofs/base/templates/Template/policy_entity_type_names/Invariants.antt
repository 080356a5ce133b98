use Rattle.std.proofs.Common.{◌≡◌, ◌++◌, map}
use Rattle.cedar_types.specs.Templates.Mentions.{mentioned_type, template_mentions}
use Rattle.cedar_types.specs.Templates.MentionViews.{mentions_left}
use Rattle.cedar_types.specs.Names.{placed_type}
use Rattle.cedar_types.specs.Templates.{template_of}
use Rattle.cedar_types.proofs.base.templates.Template.policy_entity_type_names.Given as goal

-- The types so far, and then those of the remaining mentions, are the types of all mentions
abbrev pub invariant-loop-mention : goal.invariant-loop-mention
invariant-loop-mention l =
    map (λ t. placed_type t.now) l.types.items ++ map mentioned_type (mentions_left l.mention-iterator)
    ≡ map mentioned_type (template_mentions (template_of l.fn.self))
