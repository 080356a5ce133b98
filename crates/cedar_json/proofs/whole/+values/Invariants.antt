use Rattle.std.proofs.Common.{◌+◌, ◌*◌}
use Rattle.cedar_json.specs.Cursors.{GoesOn}
use Rattle.cedar_json.specs.Fits.{ItemsFit, MembersFit}
use Rattle.cedar_json.specs.Says.{KeysDiffer}
use Rattle.cedar_json.specs.View.{items_view, members_view}
use Rattle.cedar_json.proofs.Keys.{AreKnown}
use Rattle.cedar_json.proofs.Says.{ItemsComplete, MembersComplete}
use Rattle.cedar_json.proofs.whole.+values.Given as goal

abbrev pub decreases-value : goal.decreases-value
decreases-value l = 3 * l.left + 2

abbrev pub decreases-kind : goal.decreases-kind
decreases-kind l = 3 * l.left + 1

abbrev pub decreases-entries : goal.decreases-entries
decreases-entries l = 3 * l.left

abbrev pub decreases-items : goal.decreases-items
decreases-items l = 3 * l.left

-- Reading has gone on in the same text, the entries so far stand in the bytes that were read, and
-- their keys differ and are known.
abbrev pub invariant-entries-loop : goal.invariant-entries-loop
invariant-entries-loop l = record {
  on : GoesOn l.fn.cursor l.cursor;
  fit : MembersFit l.inner l.fn.cursor.at l.cursor.at (members_view l.read.entries.items);
  stand : MembersComplete l.fn.cursor.text.now (l.fn.cursor.at + 1) l.cursor.at l.read.entries.items;
  differ : KeysDiffer (members_view l.read.entries.items);
  known : AreKnown l.read.keys l.read.entries.items;
}

abbrev pub invariant-items-loop : goal.invariant-items-loop
invariant-items-loop l = record {
  on : GoesOn l.fn.cursor l.cursor;
  fit : ItemsFit l.inner l.fn.cursor.at l.cursor.at (items_view l.read.items);
  stand : ItemsComplete l.fn.cursor.text.now (l.fn.cursor.at + 1) l.cursor.at l.read.items;
}
