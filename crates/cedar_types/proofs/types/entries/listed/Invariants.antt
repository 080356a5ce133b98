use Rattle.std.proofs.Common.{◌≡◌, ◌++◌}
use Rattle.cedar_types.proofs.types.entries.listed.Given as goal

-- The entries listed so far and the remaining entries are all entries
abbrev pub invariant-loop-entry : goal.invariant-loop-entry
invariant-loop-entry g l = l.fn.ordered.keys ≡ l.entries.items ++ l.entry-iterator
