use Rattle.std.proofs.Common.{◌∙◌, ap, sym, is_some}
use Rattle.cedar_types.specs.Names.{text_of}
use Rattle.cedar_types.specs.Types.{attributes_of}
use Rattle.cedar_conformance.proofs.Records.{named, mapped_some}
use Rattle.cedar_conformance.proofs.typed.is_declared.Goals as goal

pub returns : goal.returns
returns c =
    c.is_some.ensures
    ∙ sym (mapped_some _ c.get_attr.result)
    ∙ ap is_some c.get_attr.ensures
    ∙ named (text_of c.args.name.now) (attributes_of c.args.attributes.now)
