use Rattle.std.proofs.Common.{◌∙◌, ap, sym, is_some}
use Rattle.cedar_types.proofs.Slots.{bound_is}
use Rattle.cedar_types.specs.Names.{uid_of}
use Rattle.cedar_conformance.proofs.Records.{mapped_some}
use Rattle.cedar_conformance.proofs.policies.is_bound.Goals as goal

pub returns : goal.returns
returns c =
    c.contains_key.ensures ∙ ap is_some (sym (bound_is c.args.slot c.args.values.now.entries)) ∙ sym (mapped_some uid_of _)
