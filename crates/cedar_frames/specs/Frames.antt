-- Frames of messages on a stream.
use Rattle.std.specs.Prelude.{◌≡◌, ℕ, ◌<◌, ◌-◌, List, [], ◌∷◌, ◌++◌, drop, length, codes, Some}
use Rattle.std.specs.Fmt.{decimal}
use Rattle.cedar_frames.specs.declared.heads.Head.{Head}
use Rattle.cedar_frames.specs.declared.incoming.Broken.{Broken}
use Rattle.cedar_frames.specs.declared.incoming.Taken.{Taken}

-- ---- frames as they are sent

-- the end of a head: an empty line behind another line
abbrev pub blank : List ℕ
blank = 13 ∷ 10 ∷ 13 ∷ 10 ∷ []

-- the head of a message of n bytes, which announces n bytes behind it
abbrev pub head : ℕ → List ℕ
head n = codes "Content-Length: " ++ (decimal n ++ blank)

-- the frame of a message: its head, and the message
abbrev pub frame : List ℕ → List ℕ
frame message = head (length message) ++ message

-- ---- frames as they are taken

-- the reading of a message's head: its size, and the length that it says
abbrev pub head_said : ℕ → Head
head_said n = record { size = length (head n); length = Some n }

-- a message is taken, and the bytes behind it are left
abbrev pub IsMessage : List ℕ → List ℕ → Taken → List ℕ → Type 0
IsMessage message rest (Taken.Message m) left = (m.items ≡ message) × (left ≡ rest)
IsMessage message rest Taken.Nothing left = ⊥
IsMessage message rest (Taken.Broken why) left = ⊥

-- the bytes that had come begin with a head and the message that was taken behind it, or with bytes
-- that were passed over, and the others are left; if nothing was taken, all are left
abbrev pub IsTaken : List ℕ → Taken → List ℕ → Type 0
IsTaken old Taken.Nothing left = left ≡ old
IsTaken old (Taken.Message m) left = (first : List ℕ) × (old ≡ first ++ (m.items ++ left))
IsTaken old (Taken.Broken why) left = (first : List ℕ) × (old ≡ first ++ left)

-- repeated taking comes to an end, because a message or a broken frame takes at least one byte
abbrev pub IsShorter : List ℕ → Taken → List ℕ → Type 0
IsShorter old Taken.Nothing left = Unit {0}
IsShorter old (Taken.Message m) left = length left < length old
IsShorter old (Taken.Broken why) left = length left < length old

-- a message of n bytes is too long: its bytes that have come are gone, and those that are missing
-- will be passed over when they come
abbrev pub IsPassedOver : ℕ → List ℕ → Taken → List ℕ → ℕ → Type 0
IsPassedOver n rest Taken.Nothing left passing = ⊥
IsPassedOver n rest (Taken.Message m) left passing = ⊥
IsPassedOver n rest (Taken.Broken Broken.NoLength) left passing = ⊥
IsPassedOver n rest (Taken.Broken Broken.TooLong) left passing = (left ≡ drop n rest) × (passing ≡ n - length rest)

-- the number of bytes to pass over stays, unless a message is too long
abbrev pub IsStill : Taken → ℕ → ℕ → Type 0
IsStill Taken.Nothing before after = after ≡ before
IsStill (Taken.Message m) before after = after ≡ before
IsStill (Taken.Broken Broken.NoLength) before after = after ≡ before
IsStill (Taken.Broken Broken.TooLong) before after = Unit {0}
