use Rattle.std.proofs.Common.{ap, ◌∙◌}
use Rattle.cedar_types.specs.Types.{TRecord, entries_of, is_open_tag}
use Rattle.cedar_types.proofs.Attributes.{attributes_made, record_is}
use Rattle.cedar_types.proofs.base.types.record_parts.record_type.Goals as goal

pub returns : goal.returns
returns c =
    record_is _ c.args.is_open
    ∙ ap (λ a. TRecord a (is_open_tag c.args.is_open))
    (attributes_made _ ∙ ap (λ m. entries_of m.entries) c.in_ok-new.ensures.ok)
