use Rattle.std.proofs.Common.{◌++◌, sym, ◌∙◌}
use Rattle.cedar_types.specs.Templates.MentionViews.{mentions_left}
use Rattle.cedar_types.specs.Templates.{template_of}
use Rattle.cedar_types.proofs.Mentions.{mentions_are_those_of_the_condition}
use Rattle.cedar_types.proofs.base.templates.Template.mentions.Goals as goal

pub returns-clause-left : goal.returns-clause-left
unfolding mentions_left
returns-clause-left c =
    (λ i. c.new.ensures i ++ c.new-2.ensures i)
    ∙ sym (mentions_are_those_of_the_condition (template_of c.args.self.now))
