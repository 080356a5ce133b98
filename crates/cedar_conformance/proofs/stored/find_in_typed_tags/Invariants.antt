use Rattle.std.proofs.Common.{◌≡◌}
use Rattle.cedar_types.specs.Types.{ty_of}
use Rattle.cedar_conformance.specs.Values.{entries_of, record_of}
use Rattle.cedar_conformance.specs.Tests.{all_entries, has_type}
use Rattle.cedar_conformance.proofs.stored.find_in_typed_tags.Given as goal

-- the tags that are left decide
abbrev pub invariant-loop-name : goal.invariant-loop-name
invariant-loop-name l =
    all_entries (has_type (ty_of l.fn.ty)) (entries_of l.name-iterator)
    ≡ all_entries (has_type (ty_of l.fn.ty)) (record_of l.fn.entries)
