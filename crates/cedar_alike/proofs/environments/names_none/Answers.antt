use Rattle.std.proofs.Common.{sym, ◌∙◌}
use Rattle.cedar_types.specs.Types.{attributes_of}
use Rattle.cedar_types.proofs.Attributes.Records.{count_is}
use Rattle.cedar_alike.proofs.Alike.Environments.{none_named}
use Rattle.cedar_alike.proofs.environments.names_none.Goals as goal

pub returns : goal.returns
returns c =
    let count = count_is c.args.attributes.now c.deref.result.now c.deref.ensures in
    let none = none_named (attributes_of c.args.attributes.now) in
    (λ h. none.0 (sym count ∙ c.is_empty.ensures.0 h), λ h. c.is_empty.ensures.1 (count ∙ none.1 h))
