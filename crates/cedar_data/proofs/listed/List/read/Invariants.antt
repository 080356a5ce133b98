use Rattle.std.proofs.Common.{◌≡◌}
use Rattle.cedar_data.proofs.listed.List.read.Given as goal

-- the items are read from the text of the function
abbrev pub invariant-loop : goal.invariant-loop
invariant-loop l = l.items.cursor.text.now ≡ l.fn.text
