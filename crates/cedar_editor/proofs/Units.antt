-- Units of UTF-16 in parts of texts.
use Rattle.std.proofs.Common.{◌≡◌, ◌∙◌, ℕ, ◌+◌, ◌-◌, ◌*◌, ◌<◌, ◌≤◌, Bool, true, false, cond, ltb, List, [], ◌∷◌, length, get_or, take, drop, slice_range, sym, ap, subst, ⊎_elim, arith}
use Rattle.std.proofs.lemmas.Bool.{cases_lt}
use Rattle.std.proofs.lemmas.List.{drop-drop, drop-take, take-take}
use Rattle.std.proofs.lemmas.List.Sums.{sum_by-cons, sum_by-take-drop, sum_by_more, sum_by-take-le}
use Rattle.cedar_editor.specs.Units.{weight, units, IsBoundary}

-- a longer part has no fewer units
pub units_grow : (bs : List ℕ) (m n : ℕ) → m ≤ n → units (take m bs) ≤ units (take n bs)
units_grow bs m n h =
    subst (λ (xs : List ℕ). units xs ≤ units (take n bs)) (take-take m n bs h)
    (sum_by-take-le weight (take n bs) m)

-- one byte more adds the units of this byte
pub units_more : (bs : List ℕ) (i : ℕ) → i < length bs → units (take (i + 1) bs) ≡ units (take i bs) + weight (get_or bs i 0)
units_more bs i h = sum_by_more weight bs i 0 h

-- a boundary with this number of units before it is the byte at which the count stops, because fewer units are left than its
-- character has
pub only_boundary : (bs : List ℕ) (i n left : ℕ) → IsBoundary bs n → left + units (take i bs) ≡ units (take n bs)
    → i < length bs → left < weight (get_or bs i 0) → i ≡ n
only_boundary bs i n left b e h more =
    ⊎_elim
    (λ (below : n < i).
    let inside : n < length bs = omega arith in
    let begins : 0 < weight (get_or bs n 0) = b.begins inside in
    absurd (omega (arith, units_more bs n inside, units_grow bs (n + 1) i (omega arith))))
    (λ (above : i ≤ n).
    ⊎_elim
    (λ (apart : i < n). absurd (omega (arith, units_more bs i h, units_grow bs (i + 1) n (omega arith))))
    (λ (same : n ≤ i). omega arith)
    (cases_lt i n))
    (cases_lt n i)

-- the boundary is the end of the text, if the count does not stop before it
pub only_end : (bs : List ℕ) (n left : ℕ) → IsBoundary bs n → left + units bs ≡ units (take n bs) → length bs ≡ n
only_end bs n left b e =
    ⊎_elim
    (λ (inside : n < length bs).
    let begins : 0 < weight (get_or bs n 0) = b.begins inside in
    absurd (omega (arith, units_more bs n inside, sum_by-take-le weight bs (n + 1))))
    (λ (past : length bs ≤ n). let w : n ≤ length bs = b.within in omega arith)
    (cases_lt n (length bs))

-- the units of two parts, one behind the other
pub units_parts : (bs : List ℕ) (s m e : ℕ) → s ≤ m → m ≤ e
    → units (slice_range bs s e) ≡ units (slice_range bs s m) + units (slice_range bs m e)
units_parts bs s m e first second =
    let size : e - s ≡ (m - s) + (e - m) = omega arith in
    let at : s + (m - s) ≡ m = omega arith in
    let rest : List ℕ = drop s bs in
    let front : List ℕ = take (m - s) rest in
    ap (λ (n : ℕ). units (take n rest)) size
    ∙ (sym (sum_by-take-drop weight (take ((m - s) + (e - m)) rest) (m - s))
    ∙ (ap (λ (l : List ℕ). units l + units (drop (m - s) (take ((m - s) + (e - m)) rest)))
    (take-take (m - s) ((m - s) + (e - m)) rest (omega arith))
    ∙ ap (λ (l : List ℕ). units front + units l)
    (drop-take (m - s) (e - m) rest
    ∙ (ap (take (e - m)) (drop-drop (m - s) s bs) ∙ ap (λ (n : ℕ). take (e - m) (drop n bs)) at))))

most_if : (b : Bool) (x y n : ℕ) → x ≤ n → y ≤ n → cond b x y ≤ n
most_if true x y n first second = first
most_if false x y n first second = second

weight_most : (b : ℕ) → weight b ≤ 2
weight_most b =
    most_if (ltb b 128) 1 (cond (ltb b 192) 0 (cond (ltb b 240) 1 2)) 2 (omega arith)
    (most_if (ltb b 192) 0 (cond (ltb b 240) 1 2) 2 (omega arith) (most_if (ltb b 240) 1 2 2 (omega arith) (omega arith)))

-- a byte has at most two units
pub units_most : (bs : List ℕ) → units bs ≤ 2 * length bs
units_most [] = omega arith
units_most (b ∷ bs) = omega (arith, sum_by-cons weight b bs, weight_most b, units_most bs)
