use Rattle.std.proofs.Common.{◌∙◌}
use Rattle.cedar_types.specs.Capability.{tag}
use Rattle.cedar_types.proofs.Expressions.Marks.{shape-written}
use Rattle.cedar_typing.proofs.typecheck.rules.tags.tag_of.Goals as goal

pub returns : goal.returns
returns c = c.new_borrowed_tag.ensures ∙ (λ i. tag (shape-written c.args.operands.left.now i) (shape-written c.args.operands.right.now i))
