use Rattle.std.proofs.Common.{◌+◌, ◌-◌, ◌<◌, ◌≤◌, ◌≡◌, length}
use Rattle.std.specs.Prelude.{slice_index}
use Rattle.std.specs.String.{string_bytes}
use Rattle.cedar_json.proofs.Unescaped.{Completes}
use Rattle.cedar_json.proofs.texts.text.Given as goal

abbrev pub decreases-pieces : goal.decreases-pieces
decreases-pieces l = length l.cursor.text.now - l.cursor.at

-- The bytes that were read say the text that was added so far, and the last of them is ASCII.
abbrev pub invariant-pieces : goal.invariant-pieces
invariant-pieces l = record {
  same : l.cursor.text.now ≡ l.fn.cursor.text.now;
  start : l.start ≡ l.fn.cursor.at;
  on : l.start + 1 ≤ l.cursor.at;
  ascii : slice_index l.fn.cursor.text.now (l.cursor.at - 1) < 128;
  says : Completes l.fn.cursor.text.now (l.fn.cursor.at + 1) l.cursor.at (string_bytes l.plain);
}
