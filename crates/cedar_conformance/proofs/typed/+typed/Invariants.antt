use Rattle.std.proofs.Common.{◌≡◌, drop}
use Rattle.cedar_types.specs.Types.{ty_of, attributes_of}
use Rattle.cedar_types.specs.Types as types
use Rattle.cedar_conformance.specs.Values.{record_of, values_of}
use Rattle.cedar_conformance.specs.Tests.{has_type, all_values, have_attrs}
use Rattle.cedar_conformance.proofs.typed.+typed.Given as goal

-- the attributes that are left decide
abbrev pub invariant-find_in_declared-loop-name : goal.invariant-find_in_declared-loop-name
invariant-find_in_declared-loop-name l =
    have_attrs (types.entries_of l.name-iterator) (record_of l.entries)
    ≡ have_attrs (attributes_of l.fn.attributes) (record_of l.fn.entries)

-- the members that are left decide
abbrev pub invariant-find_in_members-loop-index : goal.invariant-find_in_members-loop-index
invariant-find_in_members-loop-index l =
    all_values (has_type (ty_of l.fn.element)) (values_of (drop l.index l.fn.members.items))
    ≡ all_values (has_type (ty_of l.fn.element)) (values_of l.fn.members.items)
