use Rattle.std.proofs.Common.{◌∙◌, ap, sym, option_map}
use Rattle.cedar_conformance.specs.Values.{value_of}
use Rattle.cedar_conformance.proofs.Records.{found, lent}
use Rattle.cedar_conformance.proofs.sets.value_at.Goals as goal

pub returns : goal.returns
returns c =
    lent c.get.result ∙ ap (option_map value_of) c.get.ensures.value ∙ sym (found c.args.name.now c.args.entries.now.entries)
