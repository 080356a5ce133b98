use Rattle.std.proofs.Common.{ap, ◌∙◌}
use Rattle.cedar_types.specs.Types.{entries_of}
use Rattle.cedar_types.proofs.Attributes.{attributes_made}
use Rattle.cedar_types.proofs.base.types.Attributes.with_attributes.Goals as goal

pub returns : goal.returns
returns c = attributes_made c.in_ok-new.field-0 ∙ ap (λ m. entries_of m.entries) c.in_ok-new.ensures.ok
