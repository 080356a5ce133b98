-- Values that fit also fit in wider places and in longer lists.
use Rattle.std.proofs.Common.{ℕ, ◌≤◌, List, [], ◌∷◌, ◌++◌, arith}
use Rattle.cedar_json.specs.declared.values.Key.{Key}
use Rattle.cedar_json.specs.declared.values.Value.{Value}
use Rattle.cedar_json.specs.Tree.{Tree, tree}
use Rattle.cedar_json.specs.View.{tree_of, items_view, members_view}
use Rattle.cedar_json.specs.Fits.{FitsIn, ItemsFit, MembersFit}

pub wider : (depth low low' high high' : ℕ) (t : Tree) → low' ≤ low → high ≤ high' → FitsIn depth low high t → FitsIn depth low' high' t
wider depth low low' high high' (tree start stop form) below above fits =
    (omega (arith, fits.0), fits.1, omega (arith, fits.2), fits.3)

pub items_more : (depth low low' high high' : ℕ) (vs : List Value) (v : Value) → low ≤ low' → high ≤ high'
    → ItemsFit depth low high (items_view vs) → FitsIn depth low' high' (tree_of v) → ItemsFit depth low high' (items_view (vs ++ v ∷ []))
items_more depth low low' high high' [] v below above fit last = (wider depth low' low high' high' (tree_of v) below (omega arith) last, tt)
items_more depth low low' high high' (w ∷ vs) v below above fit last =
    (wider depth low low high high' (tree_of w) (omega arith) above fit.0, items_more depth low low' high high' vs v below above fit.1 last)

pub members_more : (depth low high high' : ℕ) (es : List (Key × Value)) (k : Key) (v : Value) → high ≤ high' → MembersFit depth low high (members_view es)
    → low ≤ k.place.start → k.place.start ≤ k.place.end → k.place.end ≤ high' → FitsIn depth low high' (tree_of v) → MembersFit depth low high' (members_view (es ++ (k, v) ∷ []))
members_more depth low high high' [] k v above fit begins ordered ends last = (begins, ordered, ends, last, tt)
members_more depth low high high' (e ∷ es) k v above fit begins ordered ends last =
    (fit.0, fit.1, omega (arith, fit.2), wider depth low low high high' (tree_of e.1) (omega arith) above fit.3, members_more depth low high high' es k v above fit.4 begins ordered ends last)

-- items fit if one more item was read behind the others
pub items_on : (depth low before behind high : ℕ) (vs : List Value) (v : Value) → low ≤ before → before ≤ behind → behind ≤ high
    → ItemsFit depth low before (items_view vs) → FitsIn depth before behind (tree_of v) → ItemsFit depth low high (items_view (vs ++ v ∷ []))
items_on depth low before behind high vs v below read above fit last =
    items_more depth low low before high vs v (omega arith) (omega (arith, read, above)) fit (wider depth before low behind high (tree_of v) below above last)

-- members fit if one more entry was read behind the others: its key, and then its value
pub members_on : (depth low before keyed behind high : ℕ) (es : List (Key × Value)) (k : Key) (v : Value)
    → low ≤ before → before ≤ keyed → keyed ≤ behind → behind ≤ high → MembersFit depth low before (members_view es)
    → (before ≤ k.place.start) × (k.place.start ≤ k.place.end) × (k.place.end ≤ keyed) → FitsIn depth keyed behind (tree_of v)
    → MembersFit depth low high (members_view (es ++ (k, v) ∷ []))
members_on depth low before keyed behind high es k v below key read above fit stands last =
    members_more depth low before high es k v (omega (arith, key, read, above)) fit (omega (arith, below, stands.0)) stands.1
    (omega (arith, stands.2, read, above)) (wider depth keyed low behind high (tree_of v) (omega (arith, below, key)) above last)
