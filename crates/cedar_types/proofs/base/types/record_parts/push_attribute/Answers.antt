use Rattle.std.proofs.Common.{ap, ◌∙◌}
use Rattle.cedar_types.specs.Types.{texts_of, entries_of}
use Rattle.cedar_types.proofs.Attributes.Records.{pushed_attrs, pushed_texts}
use Rattle.cedar_types.proofs.base.types.record_parts.push_attribute.Goals as goal

pub returns-clause-attributes : goal.returns-clause-attributes
returns-clause-attributes c =
    ap entries_of c.in_ok-insert.ensures.entries
    ∙ pushed_attrs c.args.all.now.entries c.in_ok-clone.field-0 _ _ c.in_ok-clone.ensures.cases c.requires

pub returns-clause-names : goal.returns-clause-names
returns-clause-names c =
    ap texts_of c.in_ok-insert.ensures.entries
    ∙ pushed_texts c.args.all.now.entries c.in_ok-clone.field-0 _ _ c.in_ok-clone.ensures.cases c.requires
