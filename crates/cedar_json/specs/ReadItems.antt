-- ReadItems: the items of an array, read one after another. A bracket is 91 and 93, a comma 44.
use Rattle.std.specs.Prelude.{◌≡◌, ℕ, ◌+◌, Bool, true, false, List, length, if◌then◌else◌}
use Rattle.cedar_json.specs.Says.{Blanks, Separates, Stands, Says}
use Rattle.cedar_json.specs.Texts.{HasByte}
use Rattle.cedar_json.specs.Tree.{Tree, tree, array, Items, no_items, item}

-- an array begins: blanks alone stand before a bracket
abbrev pub BeginsArray : List ℕ → Type 0
BeginsArray bytes = (start : ℕ) × Blanks bytes 0 start × HasByte bytes start 91

-- behind the first bracket, blanks were read, and the last bracket if the array is empty
abbrev pub GoesInside : List ℕ → ℕ → ℕ → Bool → Type 0
GoesInside bytes low at true = Separates bytes low at 93
GoesInside bytes low at false = Blanks bytes low at

-- the first bracket was read with the blanks before it and what stands directly behind it
abbrev pub Opens : List ℕ → ℕ → Bool → Type 0
Opens bytes at is_empty = (start : ℕ) × Blanks bytes 0 start × HasByte bytes start 91 × GoesInside bytes (start + 1) at is_empty

-- an item was read with the comma behind it, or with the last bracket
abbrev pub ItemReads : List ℕ → ℕ → ℕ → Bool → Tree → Type 0
ItemReads bytes low high is_last x = (stop : ℕ) × Stands bytes low stop x × Separates bytes stop high (if is_last then 93 else 44)

-- the items were read up to the end of the text, behind which blanks alone stand
abbrev pub ItemsRead : List ℕ → ℕ → Bool → Items → Type 0
ItemsRead bytes at is_ended no_items = (is_ended ≡ true) × Blanks bytes at (length bytes)
ItemsRead bytes at is_ended (item x is) = (is_ended ≡ false) × (high : ℕ) × (is_last : Bool) × ItemReads bytes at high is_last x × ItemsRead bytes high is_last is

-- a text whose items were read one after another says the array of these items
abbrev pub ItemsMakeTheArray : Type 0
ItemsMakeTheArray = (bytes : List ℕ) (at : ℕ) (is_empty : Bool) (is : Items) → Opens bytes at is_empty → ItemsRead bytes at is_empty is
    → (start : ℕ) × (stop : ℕ) × Says bytes (tree start stop (array is))
