-- Items that were read one after another make an array.
use Rattle.std.proofs.Common.{ℕ, ◌+◌, ◌≡◌, Bool, List, length, refl, subst}
use Rattle.std.specs.Prelude.{if◌then◌else◌}
use Rattle.cedar_json.specs.ReadItems.{GoesInside, ItemsMakeTheArray, ItemsRead}
use Rattle.cedar_json.specs.Says.{Blanks, Stands, Separates, ItemsFollow}
use Rattle.cedar_json.specs.Texts.{HasByte}
use Rattle.cedar_json.specs.Tree.{Items, no_items, item}
use Rattle.cedar_json.proofs.Says.{no_blanks, widened}

-- the items behind a bracket or a comma follow it, and blanks alone stand behind them
follows : (bytes : List ℕ) (at high : ℕ) (is_last : Bool) (is : Items) → HasByte bytes at (if is_last then 93 else 44) → high ≡ at + 1
    → ItemsRead bytes high is_last is → (stop : ℕ) × ItemsFollow bytes at stop is × Blanks bytes stop (length bytes)
follows bytes at high is_last no_items byte next read =
    let close : HasByte bytes at 93 = subst (λ (b : Bool). HasByte bytes at (if b then 93 else 44)) read.0 byte in
    (at + 1, (close, refl), subst (λ n. Blanks bytes n (length bytes)) next read.1)
follows bytes at high is_last (item x is) byte next (not_last, high', is_last', (stop', stands', (end, blanks, closing, behind)), read) =
    let comma : HasByte bytes at 44 = subst (λ (b : Bool). HasByte bytes at (if b then 93 else 44)) not_last byte in
    let stands : Stands bytes high end x = widened bytes high high stop' end x (no_blanks bytes high) stands' blanks in
    let here : Stands bytes (at + 1) end x = subst (λ n. Stands bytes n end x) next stands in
    let rest = follows bytes end high' is_last' is closing behind read in
    (rest.0, (comma, end, here, rest.1), rest.2)

pub items_make_the_array : ItemsMakeTheArray
items_make_the_array bytes at is_empty no_items (start, before, bracket, behind) read =
    let close : Separates bytes (start + 1) at 93 = subst (λ b. GoesInside bytes (start + 1) at b) read.0 behind in
    (start, at, (before, (bracket, close), read.1))
items_make_the_array bytes at is_empty (item x is) (start, before, bracket, behind) (not_empty, high, is_last, (stop', stands', (end, blanks, closing, next)), read) =
    let inside : Blanks bytes (start + 1) at = subst (λ b. GoesInside bytes (start + 1) at b) not_empty behind in
    let stands : Stands bytes (start + 1) end x = widened bytes (start + 1) at stop' end x inside stands' blanks in
    let rest = follows bytes end high is_last is closing next read in
    (start, rest.0, (before, (bracket, (end, stands, rest.1)), rest.2))
