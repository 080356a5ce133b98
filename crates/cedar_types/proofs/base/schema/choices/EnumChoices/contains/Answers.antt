use Rattle.std.proofs.Common.{◌∙◌}
use Rattle.cedar_types.specs.Names.{text_of}
use Rattle.cedar_types.proofs.Schema.Choices.{contained_text}
use Rattle.cedar_types.proofs.base.schema.choices.EnumChoices.contains.Goals as goal

pub returns : goal.returns
returns c = c.contains.ensures ∙ contained_text (text_of c.args.id.now) c.args.self.now.known.keys ∙ c.args.self.now.same (text_of c.args.id.now)
