-- Says: the tree that a text of JSON says, place by place. A bracket is 91 and 93, a brace 123 and
-- 125, a comma 44, a colon 58.
use Rattle.std.specs.Prelude.{◌≡◌, ◌≢◌, ℕ, ◌+◌, ◌<◌, ◌≤◌, Bool, true, false, ◌||◌, ◌==◌, List, length, slice_index, slice_range, codes, ⊤}
use Rattle.std.specs.Str.Parse.{true_text, false_text}
use Rattle.cedar_json.specs.Numbers.{SaysInteger, IsDecimal}
use Rattle.cedar_json.specs.Texts.{HasByte, Quotes}
use Rattle.cedar_json.specs.Tree.{Tree, tree, Form, object, array, text, integer, boolean, null, Items, no_items, item, Members, no_members, member}

-- a space, a tab, or one of the ends of lines
abbrev pub is_blank : ℕ → Bool
is_blank b = (b == 32 || b == 9) || (b == 10 || b == 13)

-- blanks alone stand from one place to another
abbrev pub Blanks : List ℕ → ℕ → ℕ → Type 0
Blanks bytes low high = (low ≤ high) × ((i : ℕ) → low ≤ i → i < high → is_blank (slice_index bytes i) ≡ true)

-- the word of a truth value: `true` or `false`
abbrev pub word_of : Bool → List ℕ
word_of true = true_text
word_of false = false_text

-- the word `null`
abbrev pub null_text : List ℕ
null_text = codes "null"

-- no member has this key
abbrev pub IsNew : List ℕ → Members → Type 0
IsNew key no_members = ⊤
IsNew key (member k start stop x ms) = (key ≢ k) × IsNew key ms

-- no key stands twice
abbrev pub KeysDiffer : Members → Type 0
KeysDiffer no_members = ⊤
KeysDiffer (member k start stop x ms) = IsNew k ms × KeysDiffer ms

-- a key stands between blanks, and then a colon at the place `colon`
abbrev pub KeyStands : List ℕ → ℕ → ℕ → ℕ → ℕ → List ℕ → Type 0
KeyStands bytes low start stop colon key = Blanks bytes low start × Quotes bytes start stop key × Blanks bytes stop colon × HasByte bytes colon 58

-- a key was read with its colon
abbrev pub KeyReads : List ℕ → ℕ → ℕ → ℕ → ℕ → List ℕ → Type 0
KeyReads bytes low high start stop key = (colon : ℕ) × KeyStands bytes low start stop colon key × (high ≡ colon + 1)

abbrev mutual
  -- a value stands from `low` to `high`, with blanks alone beside it
  pub Stands : List ℕ → ℕ → ℕ → Tree → Type 0
  Stands bytes low high (tree start stop form) = Blanks bytes low start × FormSays bytes start stop form × Blanks bytes stop high

  -- An object stands between braces, and its keys differ. An array stands between brackets, and a
  -- text between quotes. A number has its digits, and a word its letters.
  pub FormSays : List ℕ → ℕ → ℕ → Form → Type 0
  FormSays bytes start stop (object ms) = HasByte bytes start 123 × MembersStand bytes (start + 1) stop ms × KeysDiffer ms
  FormSays bytes start stop (array is) = HasByte bytes start 91 × ItemsStand bytes (start + 1) stop is
  FormSays bytes start stop (text said) = Quotes bytes start stop said
  FormSays bytes start stop (integer z) = let written = slice_range bytes start stop in SaysInteger written z × IsDecimal written
  FormSays bytes start stop (boolean b) = slice_range bytes start stop ≡ word_of b
  FormSays bytes start stop null = slice_range bytes start stop ≡ null_text

  -- behind the first bracket: no item and the last bracket, or an item and its followers
  pub ItemsStand : List ℕ → ℕ → ℕ → Items → Type 0
  ItemsStand bytes low stop no_items = (close : ℕ) × Blanks bytes low close × HasByte bytes close 93 × (stop ≡ close + 1)
  ItemsStand bytes low stop (item x is) = (high : ℕ) × Stands bytes low high x × ItemsFollow bytes high stop is

  -- behind an item: the last bracket, or a comma and a further item
  pub ItemsFollow : List ℕ → ℕ → ℕ → Items → Type 0
  ItemsFollow bytes at stop no_items = HasByte bytes at 93 × (stop ≡ at + 1)
  ItemsFollow bytes at stop (item x is) = HasByte bytes at 44 × (high : ℕ) × Stands bytes (at + 1) high x × ItemsFollow bytes high stop is

  -- behind the first brace: no member and the last brace, or a member and its followers
  pub MembersStand : List ℕ → ℕ → ℕ → Members → Type 0
  MembersStand bytes low stop no_members = (close : ℕ) × Blanks bytes low close × HasByte bytes close 125 × (stop ≡ close + 1)
  MembersStand bytes low stop (member k start behind x ms) = (colon : ℕ) × (high : ℕ) × KeyStands bytes low start behind colon k
      × Stands bytes (colon + 1) high x × MembersFollow bytes high stop ms

  -- behind a member: the last brace, or a comma and a further member
  pub MembersFollow : List ℕ → ℕ → ℕ → Members → Type 0
  MembersFollow bytes at stop no_members = HasByte bytes at 125 × (stop ≡ at + 1)
  MembersFollow bytes at stop (member k start behind x ms) = HasByte bytes at 44 × (colon : ℕ) × (high : ℕ) × KeyStands bytes (at + 1) start behind colon k
      × Stands bytes (colon + 1) high x × MembersFollow bytes high stop ms

-- the last bracket or a comma was read, with the blanks before it
abbrev pub Separates : List ℕ → ℕ → ℕ → ℕ → Type 0
Separates bytes low high b = (at : ℕ) × Blanks bytes low at × HasByte bytes at b × (high ≡ at + 1)

-- the text says the tree and nothing else
abbrev pub Says : List ℕ → Tree → Type 0
Says bytes t = Stands bytes 0 (length bytes) t
