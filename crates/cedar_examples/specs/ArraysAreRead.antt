-- ArraysAreRead: the items of the array that a text says can be read one after another.
use Rattle.std.specs.Prelude.{ℕ, Bool, List}
use Rattle.cedar_json.specs.ReadItems.{BeginsArray, ItemsRead, Opens}
use Rattle.cedar_json.specs.Says.{Says}
use Rattle.cedar_json.specs.Tree.{tree, array, Items}

-- a text that says an array begins with one, and its items can be read one after another
abbrev pub ArraysAreRead : Type 0
ArraysAreRead = (bytes : List ℕ) (start stop : ℕ) (is : Items) → Says bytes (tree start stop (array is))
    → BeginsArray bytes × ((at : ℕ) × (is_empty : Bool) × Opens bytes at is_empty × ItemsRead bytes at is_empty is)
