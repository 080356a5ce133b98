-- Cursors: the effect of reading a part of a text, and the places of faults.
use Rattle.std.specs.Prelude.{◌≡◌, ℕ, ◌≤◌, ⊤}
use Rattle.cedar_json.specs.declared.cursor.Cursor.{Cursor}
use Rattle.cedar_json.specs.declared.faults.ReadError.{ReadError}
use Rattle.cedar_json.specs.declared.faults.ReadError.TheVariants.{Memory, At}

-- reading goes on in the same text
abbrev pub GoesOn : Cursor → Cursor → Type 0
GoesOn before after = (after.text.now ≡ before.text.now) × (before.at ≤ after.at)

-- a fault stands at a byte of a text of so many bytes, or at its end
abbrev pub IsFaultWithin : ℕ → ReadError → Type 0
IsFaultWithin size (Memory error) = ⊤
IsFaultWithin size (At start fault) = start ≤ size
