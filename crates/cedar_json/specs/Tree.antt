-- A tree is a value of JSON as plain data. Each part has the byte at which it begins and the byte
-- behind its last.
use Rattle.std.specs.Prelude.{ℕ, ℤ, Bool, List}

mutual
  pub data Tree : Type 0 where
    tree : ℕ → ℕ → Form → Tree

  pub data Form : Type 0 where
    object : Members → Form
    array : Items → Form
    text : List ℕ → Form
    integer : ℤ → Form
    boolean : Bool → Form
    null : Form

  pub data Items : Type 0 where
    no_items : Items
    item : Tree → Items → Items

  -- members: each key has its text and its two bytes
  pub data Members : Type 0 where
    no_members : Members
    member : List ℕ → ℕ → ℕ → Tree → Members → Members
