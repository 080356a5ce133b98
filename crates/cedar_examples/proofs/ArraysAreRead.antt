-- The items of the array that a text says can be read one after another.
use Rattle.std.proofs.Common.{ℕ, ◌+◌, Bool, true, false, List, length, refl, subst}
use Rattle.std.specs.Prelude.{if◌then◌else◌}
use Rattle.cedar_examples.specs.ArraysAreRead.{ArraysAreRead}
use Rattle.cedar_json.specs.ReadItems.{ItemsRead}
use Rattle.cedar_json.specs.Says.{Blanks, ItemsFollow}
use Rattle.cedar_json.specs.Texts.{HasByte}
use Rattle.cedar_json.specs.Tree.{Items, no_items, item}
use Rattle.cedar_json.proofs.Says.{no_blanks}

-- behind an item stands the last bracket, or a comma and items that can be read
read_on : (bytes : List ℕ) (at stop : ℕ) (is : Items) → ItemsFollow bytes at stop is → Blanks bytes stop (length bytes)
    → (is_last : Bool) × HasByte bytes at (if is_last then 93 else 44) × ItemsRead bytes (at + 1) is_last is
read_on bytes at stop no_items (close, ends) behind = (true, close, (refl, subst (λ n. Blanks bytes n (length bytes)) ends behind))
read_on bytes at stop (item x is) (comma, high, stands, follow) behind =
    let rest = read_on bytes high stop is follow behind in
    (false, comma, (refl, high + 1, rest.0, (high, stands, (high, no_blanks bytes high, rest.1, refl)), rest.2))

pub arrays_are_read : ArraysAreRead
arrays_are_read bytes start stop no_items (before, (bracket, close), behind) =
    ((start, before, bracket), (stop, true, (start, before, bracket, close), (refl, behind)))
arrays_are_read bytes start stop (item x is) (before, (bracket, (high, stands, follow)), behind) =
    let rest = read_on bytes high stop is follow behind in (
      (start, before, bracket),
      (
        start + 1,
        false,
        (start, before, bracket, no_blanks bytes (start + 1)),
        (refl, high + 1, rest.0, (high, stands, (high, no_blanks bytes high, rest.1, refl)), rest.2),
      ),
    )
