use Rattle.std.proofs.Common.{◌≡◌}
use Rattle.cedar_types.specs.Types.{attributes_of, attr_names}
use Rattle.cedar_conformance.specs.Values.{entries_of, record_of}
use Rattle.cedar_conformance.specs.Tests.{keys_among}
use Rattle.cedar_conformance.proofs.typed.find_undeclared.Given as goal

-- the keys that are left decide
abbrev pub invariant-loop-name : goal.invariant-loop-name
invariant-loop-name l =
    keys_among (attr_names (attributes_of l.attributes)) (entries_of l.name-iterator)
    ≡ keys_among (attr_names (attributes_of l.fn.attributes)) (record_of l.fn.entries)
