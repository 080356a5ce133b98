use Rattle.std.proofs.Common.{◌≡◌, List, ◌++◌, take, map}
use Rattle.cedar_conformance.specs.Values.{value_of, entries_of}
use Rattle.cedar_conformance.proofs.copies.+copied_values.Given as goal

-- the copies are the members so far
abbrev pub invariant-copy_members-loop-member : goal.invariant-copy_members-loop-member
invariant-copy_members-loop-member l = map value_of l.copies.items ≡ map value_of (take l.member-index l.member-items)

-- the record is the values that are done, then those to come; the copies stand for those that are
-- done
abbrev pub invariant-copy_record-loop-key : goal.invariant-copy_record-loop-key
invariant-copy_record-loop-key l =
    (done : List _) × (l.entries.entries ≡ done ++ l.key-iterator) × (entries_of l.copies.entries ≡ entries_of done)
