use Rattle.std.proofs.Common.{◌∙◌, sym}
use Rattle.std.proofs.lemmas.List.{length-map}
use Rattle.cedar_conformance.specs.Entities.{stored_of}
use Rattle.cedar_conformance.proofs.entities.Entities.len.Goals as goal

pub returns : goal.returns
returns c = c.len.ensures.len ∙ sym (length-map c.args.self.now.entries.entries stored_of)
