-- Lists with the same members, as far as a test tells.
use Rattle.std.specs.Prelude.{◌≡◌, Bool, List}
use Rattle.std.specs.List.{list_any}

-- a test passes at some member of one list exactly if it passes at some member of the other
abbrev pub SameMembers : {X : Type 0} → List X → List X → Type 0
SameMembers {X} xs ys = (p : X → Bool) → list_any p xs ≡ list_any p ys
