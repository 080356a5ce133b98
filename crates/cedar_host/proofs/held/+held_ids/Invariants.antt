use Rattle.std.proofs.Common.{◌≡◌, ◌++◌, map, drop}
use Rattle.cedar_types.specs.Names.{uid_of}
use Rattle.cedar_typechecker.specs.Slices.Reach.{ids_in_members, ids_in_entries}
use Rattle.cedar_conformance.specs.Values.{values_of, entries_of}
use Rattle.cedar_host.proofs.held.+held_ids.Given as goal

-- the ids so far and those of the rest are the ids before and those of all
abbrev pub invariant-push_in_members-loop-member : goal.invariant-push_in_members-loop-member
invariant-push_in_members-loop-member l =
    map uid_of l.ids.items ++ ids_in_members (values_of (drop l.member-index l.member-items))
    ≡ map uid_of l.fn.ids.items ++ ids_in_members (values_of l.fn.members.items)

abbrev pub invariant-push_in_record-loop-value : goal.invariant-push_in_record-loop-value
invariant-push_in_record-loop-value l =
    map uid_of l.ids.items ++ ids_in_entries (entries_of l.value-iterator)
    ≡ map uid_of l.fn.ids.items ++ ids_in_entries (entries_of l.fn.entries.entries)
