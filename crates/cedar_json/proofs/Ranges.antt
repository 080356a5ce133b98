-- Ranges: the parts of a text between two places.
use Rattle.std.proofs.Common.{◌≡◌, ◌∙◌, ℕ, ◌+◌, ◌-◌, ◌<◌, ◌≤◌, List, [], ◌∷◌, ◌++◌, length, take, drop, sym, ap, Option, Some, None, IfSome, IfNone, ⊎_elim, arith, get_or-take, get_or-drop, drop-drop, take-add, length-drop, length-take-le}
use Rattle.std.specs.Prelude.{slice_range, slice_index, slice_get}
use Rattle.std.proofs.lemmas.List.{drop_more}
use Rattle.std.proofs.lemmas.Option.{slice_get_within, get_or_from_slice_get, slice_get_cases}

pub index_in : (xs : List ℕ) (a b i : ℕ) → a + i < b → slice_index (slice_range xs a b) i ≡ slice_index xs (a + i)
index_in xs a b i h = get_or-take (b - a) (drop a xs) i 0 (omega arith) ∙ get_or-drop a xs i 0

pub length_range : (xs : List ℕ) (a b : ℕ) → b ≤ length xs → length (slice_range xs a b) ≡ b - a
length_range xs a b h = length-take-le (b - a) (drop a xs) (omega (arith, length-drop a xs))

-- a part is the bytes up to a place between, and the rest
pub joined : (xs : List ℕ) (a m b : ℕ) → a ≤ m → m ≤ b → slice_range xs a m ++ slice_range xs m b ≡ slice_range xs a b
joined xs a m b h k =
    let split : take ((m - a) + (b - m)) (drop a xs) ≡ take (m - a) (drop a xs) ++ take (b - m) (drop (m - a) (drop a xs)) = take-add (m - a) (b - m) (drop a xs) in
    let reached : a + (m - a) ≡ m = omega arith in
    let behind : drop (m - a) (drop a xs) ≡ drop m xs = drop-drop (m - a) a xs ∙ ap (λ n. drop n xs) reached in
    let whole : (m - a) + (b - m) ≡ b - a = omega arith in
    sym (ap (λ n. take n (drop a xs)) (sym whole) ∙ split ∙ ap (λ ys. take (m - a) (drop a xs) ++ take (b - m) ys) behind)

pub one : (xs : List ℕ) (a : ℕ) → a < length xs → slice_range xs a (a + 1) ≡ slice_index xs a ∷ []
one xs a h =
    let n : (a + 1) - a ≡ 1 = omega arith in
    ap (λ n. take n (drop a xs)) n ∙ ap (λ ys. take 1 ys) (drop_more xs a 0 h)

pub first : (xs : List ℕ) (a b : ℕ) → a < length xs → a < b → slice_range xs a b ≡ slice_index xs a ∷ slice_range xs (a + 1) b
first xs a b h k = sym (joined xs a (a + 1) b (omega arith) (omega arith)) ∙ ap (λ ys. ys ++ slice_range xs (a + 1) b) (one xs a h)

pub empty : (xs : List ℕ) (a : ℕ) → slice_range xs a a ≡ []
empty xs a = let n : a - a ≡ 0 = omega arith in ap (λ n. take n (drop a xs)) n

-- ---- the next byte, if there is one

pub peeked : (xs : List ℕ) (i : ℕ) (r : Option ℕ) → r ≡ slice_get xs i → IfSome r (λ b. (i < length xs) × (slice_index xs i ≡ b))
peeked xs i (Some b) e = (slice_get_within xs i b (sym e), get_or_from_slice_get xs i b 0 (sym e))
peeked xs i None e = tt

pub at_end : (xs : List ℕ) (i : ℕ) (r : Option ℕ) → r ≡ slice_get xs i → IfNone r (length xs ≤ i)
at_end xs i (Some b) e = tt
at_end xs i None e = ⊎_elim (λ there. absurd (none_is_not_some there.0 (e ∙ there.2))) (λ past. past.0) (slice_get_cases xs i).1
  where
    none_is_not_some : (b : ℕ) → None ≡ Some b → ⊥
    none_is_not_some b h = cc
