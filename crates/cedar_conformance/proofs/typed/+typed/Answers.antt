use Rattle.std.proofs.Common.{◌∙◌, ap, sym}
use Rattle.cedar_types.specs.Types.{entries_of}
use Rattle.cedar_types.proofs.Attributes.{attributes_are}
use Rattle.cedar_conformance.specs.Values.{record_of}
use Rattle.cedar_conformance.specs.Tests.{have_attrs}
use Rattle.cedar_conformance.proofs.typed.+typed.Goals as goal

pub find_in_declared-loop-name-init : goal.find_in_declared-loop-name-init
find_in_declared-loop-name-init t c =
    ap (λ es. have_attrs (entries_of es) (record_of c.args.entries.now))
    (c.into_iter-name-iterator.ensures.into_iter_gives ∙ c.iter-name-items.ensures.rest
    ∙ ap (λ m. m.entries) c.deref.ensures)
    ∙ ap (λ xs. have_attrs xs (record_of c.args.entries.now)) (sym (attributes_are c.args.attributes.now))
