use Rattle.std.proofs.Common.{◌≡◌}
use Rattle.cedar_types.specs.Templates.MentionViews.{named_by_left}
use Rattle.cedar_types.proofs.base.templates.rest_mentions.next_of_parts.Given as goal

-- The parts passed over mention nothing
abbrev pub invariant-loop-expr : goal.invariant-loop-expr
invariant-loop-expr l =
    named_by_left l.parts ≡ named_by_left l.initial.parts
