-- Fits: the places of the parts of a value, and its depth.
use Rattle.std.specs.Prelude.{ℕ, ◌-◌, ◌<◌, ◌≤◌, ⊤}
use Rattle.cedar_json.specs.Tree.{Tree, tree, Form, object, array, text, integer, boolean, null, Items, no_items, item, Members, no_members, member}

abbrev mutual
  -- A value stands between these two bytes, and each part stands inside its whole. At most `depth`
  -- objects and arrays stand inside each other.
  pub FitsIn : ℕ → ℕ → ℕ → Tree → Type 0
  FitsIn depth low high (tree start stop form) = (low ≤ start) × (start ≤ stop) × (stop ≤ high) × FormFits depth start stop form

  pub FormFits : ℕ → ℕ → ℕ → Form → Type 0
  FormFits depth low high (object ms) = (0 < depth) × MembersFit (depth - 1) low high ms
  FormFits depth low high (array is) = (0 < depth) × ItemsFit (depth - 1) low high is
  FormFits depth low high (text x) = ⊤
  FormFits depth low high (integer z) = ⊤
  FormFits depth low high (boolean b) = ⊤
  FormFits depth low high null = ⊤

  pub ItemsFit : ℕ → ℕ → ℕ → Items → Type 0
  ItemsFit depth low high no_items = ⊤
  ItemsFit depth low high (item x is) = FitsIn depth low high x × ItemsFit depth low high is

  pub MembersFit : ℕ → ℕ → ℕ → Members → Type 0
  MembersFit depth low high no_members = ⊤
  MembersFit depth low high (member k start stop x ms) = (low ≤ start) × (start ≤ stop) × (stop ≤ high) × FitsIn depth low high x × MembersFit depth low high ms
