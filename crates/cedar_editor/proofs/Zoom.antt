-- Texts between other texts, and the positions in them.
use Rattle.std.proofs.Common.{◌≡◌, ◌∙◌, ℕ, zero, suc, ◌+◌, ◌-◌, ◌<◌, ◌≤◌, Bool, true, false, not, ◌&&◌, ◌||◌, cond, eqb, ltb, List, [], ◌∷◌, ◌++◌, length, map, take, drop, get_or, refl, sym, ap, subst, arith, append_assoc, length-append, length-drop, slice_range, Some, ⊎_elim}
use Rattle.std.specs.List.{filter, range_with_len}
use lib.Seq.{drop-append-add}
use Rattle.std.proofs.lemmas.Bool.{cases_lt, lt-ltb}
use Rattle.std.proofs.lemmas.List.{drop-append-le, drop-take, get_or-append-add, get_or-drop, get_or-map, get_or_append_left, length-map, take-append-le}
use Rattle.std.proofs.lemmas.List.Elements.{filter-append}
use Rattle.cedar_editor.specs.Drafts.{IsEnded}
use Rattle.cedar_editor.specs.Edits.{is_edited, spliced_text}
use Rattle.cedar_editor.specs.Lines.{begins_line, line_starts, start_in, IsPositionOf}
use Rattle.cedar_editor.specs.Units.{units, weight, IsBoundary}
use Rattle.cedar_editor.specs.declared.lines.Position.{Position}
use Rattle.cedar_editor.specs.declared.lines.Range.{Range}
use Rattle.cedar_types.specs.declared.base.location.Loc.{Loc}
use Rattle.cedar_editor.proofs.Starts.{begins_same, filter_moved, filter_same, range_parts}

-- ---- lines of two texts, of which the first is ended

begins_behind_feed : (bs : List ℕ) (n : ℕ) → 0 < n → get_or bs (n - 1) 0 ≡ 10 → begins_line bs n ≡ true
begins_behind_feed bs n more feed =
    ap (λ (x : ℕ). ltb 0 n && (eqb x 10 || (eqb x 13 && not (eqb (get_or bs n 0) 10)))) feed
    ∙ ap (λ (b : Bool). b && true) (lt-ltb 0 n more)

first_of_more : (a b : List ℕ) → IsEnded a → 0 < length a → (k : ℕ) → k < length a + 1 → begins_line (a ++ b) k ≡ begins_line a k
first_of_more a b ended some k below =
    ⊎_elim
    (λ (inside : k < length a).
    begins_same (a ++ b) a k k refl (get_or_append_left a b 0 (k - 1) (omega arith)) (get_or_append_left a b 0 k inside))
    (λ (past : length a ≤ k).
    let at : k - 1 ≡ length a - 1 = omega arith in
    let feed : get_or a (k - 1) 0 ≡ 10 = ap (λ (n : ℕ). get_or a n 0) at ∙ ended some in
    begins_behind_feed (a ++ b) k (omega arith) (get_or_append_left a b 0 (k - 1) (omega arith) ∙ feed)
    ∙ sym (begins_behind_feed a k (omega arith) feed))
    (cases_lt k (length a))

begins_in_first : (a b : List ℕ) → IsEnded a → (k : ℕ) → k < length a + 1 → begins_line (a ++ b) k ≡ begins_line a k
begins_in_first [] b ended zero below = refl
begins_in_first [] b ended (suc k) below = absurd (omega arith)
begins_in_first (x ∷ xs) b ended k below = first_of_more (x ∷ xs) b ended (omega arith) k below

begins_moved : (a b : List ℕ) (i : ℕ) → begins_line b (1 + i) ≡ begins_line (a ++ b) (length a + 1 + i)
begins_moved a b i =
    let last_own : 1 + i - 1 ≡ i = omega arith in
    let last : length a + 1 + i - 1 ≡ length a + i = omega arith in
    let at : length a + 1 + i ≡ length a + (1 + i) = omega arith in
    begins_same b (a ++ b) (1 + i) (length a + 1 + i)
    (lt-ltb 0 (1 + i) (omega arith) ∙ sym (lt-ltb 0 (length a + 1 + i) (omega arith)))
    (ap (λ (k : ℕ). get_or b k 0) last_own
    ∙ (sym (get_or-append-add a b i 0) ∙ sym (ap (λ (k : ℕ). get_or (a ++ b) k 0) last)))
    (sym (get_or-append-add a b (1 + i) 0) ∙ sym (ap (λ (k : ℕ). get_or (a ++ b) k 0) at))

rest_starts : (b : List ℕ) → line_starts b ≡ filter (begins_line b) (range_with_len 1 (length b))
rest_starts b =
    let one : length b + 1 ≡ suc (length b) = omega arith in
    ap (λ (n : ℕ). filter (begins_line b) (range_with_len 0 n)) one

-- lines begin in two texts, of which the first is ended, where they begin in each
pub split_starts : (a b : List ℕ) → IsEnded a → line_starts (a ++ b) ≡ line_starts a ++ map (λ k. length a + k) (line_starts b)
split_starts a b ended =
    let size : length (a ++ b) + 1 ≡ (length a + 1) + length b = omega (arith, length-append a b) in
    ap (λ (n : ℕ). filter (begins_line (a ++ b)) (range_with_len 0 n)) size
    ∙ (ap (filter (begins_line (a ++ b))) (range_parts 0 (length a + 1) (length b) (length a + 1) (omega arith))
    ∙ (filter-append (begins_line (a ++ b)) (range_with_len 0 (length a + 1)) (range_with_len (length a + 1) (length b))
    ∙ (ap (λ (l : List ℕ). l ++ filter (begins_line (a ++ b)) (range_with_len (length a + 1) (length b)))
    (filter_same (begins_line (a ++ b)) (begins_line a) 0 (length a + 1)
    (λ k low high. begins_in_first a b ended k (omega arith)))
    ∙ (ap (λ (l : List ℕ). line_starts a ++ l)
    (sym (filter_moved (λ k. length a + k) (begins_line b) (begins_line (a ++ b)) 1 (length a + 1) (length b)
    (λ i less. (omega arith, begins_moved a b i))))
    ∙ ap (λ (l : List ℕ). line_starts a ++ map (λ k. length a + k) l) (sym (rest_starts b))))))

-- the last line of an ended text begins at its end
last_start : (a : List ℕ) → IsEnded a → 0 < length a
    → (0 < length (line_starts a)) × (get_or (line_starts a) (length (line_starts a) - 1) 0 ≡ length a)
last_start a ended some =
    let front : List ℕ = filter (begins_line a) (range_with_len 0 (length a)) in
    let is : line_starts a ≡ front ++ length a ∷ [] =
    ap (filter (begins_line a)) (range_parts 0 (length a) 1 (length a) (omega arith))
    ∙ (filter-append (begins_line a) (range_with_len 0 (length a)) (range_with_len (length a) 1)
    ∙ ap (λ (b : Bool). front ++ cond b (length a ∷ []) []) (begins_behind_feed a (length a) some (ended some))) in
    let long : length (line_starts a) ≡ length front + 1 = ap length is ∙ length-append front (length a ∷ []) in
    let at : length (line_starts a) - 1 ≡ length front + 0 = omega (arith, long) in (
      omega (arith, long),
      ap (λ (n : ℕ). get_or (line_starts a) n 0) at
          ∙ (ap (λ (l : List ℕ). get_or l (length front + 0) 0) is ∙ get_or-append-add front (length a ∷ []) 0 0),
    )

below_if : (b : Bool) (xs : List ℕ) (a c : ℕ) → ((k : ℕ) → k < length xs → get_or xs k 0 < c) → a < c
    → (k : ℕ) → k < length (cond b (a ∷ xs) xs) → get_or (cond b (a ∷ xs) xs) k 0 < c
below_if true xs a c rest first zero below = first
below_if true xs a c rest first (suc k) below = rest k (omega arith)
below_if false xs a c rest first k below = rest k below

filter_below : (p : ℕ → Bool) (a n k : ℕ) → k < length (filter p (range_with_len a n)) → get_or (filter p (range_with_len a n)) k 0 < a + n
filter_below p a zero k below = absurd (omega arith)
filter_below p a (suc n) k below =
    below_if (p a) (filter p (range_with_len (a + 1) n)) a (a + suc n)
    (λ i less. omega (arith, filter_below p (a + 1) n i less)) (omega arith) k below

-- ---- a text between two others

-- the beginnings of lines of a text between two others
middle_starts : (f m b : List ℕ) → IsEnded f → IsEnded m → line_starts (f ++ (m ++ b))
    ≡ line_starts f ++ map (λ k. length f + k) (line_starts m ++ map (λ k. length m + k) (line_starts b))
middle_starts f m b first second =
    split_starts f (m ++ b) first
    ∙ ap (λ (l : List ℕ). line_starts f ++ map (λ k. length f + k) l) (split_starts m b second)

-- a line in the middle ends there
next_start : (f m b : List ℕ) → IsEnded f → IsEnded m → (l : ℕ) → l < length (line_starts m)
    → get_or (line_starts (f ++ (m ++ b))) (length (line_starts f) + l) 0 ≡ length f + get_or (line_starts m) l 0
next_start f m b first second l below =
    let others : List ℕ = map (λ k. length m + k) (line_starts b) in
    let inner : List ℕ = line_starts m ++ others in
    let long : length inner ≡ length (line_starts m) + length others = length-append (line_starts m) others in
    ap (λ (s : List ℕ). get_or s (length (line_starts f) + l) 0) (middle_starts f m b first second)
    ∙ (get_or-append-add (line_starts f) (map (λ k. length f + k) inner) l 0
    ∙ (get_or-map (λ k. length f + k) inner l 0 0 (omega (arith, long))
    ∙ ap (λ (n : ℕ). length f + n) (get_or_append_left (line_starts m) others 0 l below)))

first_start : (f m b : List ℕ) → IsEnded f → IsEnded m → 0 < length f → 0 < length (line_starts m)
    → start_in (line_starts (f ++ (m ++ b))) (length (line_starts f) + 0) ≡ length f + start_in (line_starts m) 0
first_start f m b first second some below =
    let all : List ℕ = line_starts (f ++ (m ++ b)) in
    let on : length f ≡ length f + 0 = omega arith in
    let last : (0 < length (line_starts f)) × (get_or (line_starts f) (length (line_starts f) - 1) 0 ≡ length f) =
    last_start f first some in
    let is : ltb 0 (length (line_starts f) + 0) ≡ true = lt-ltb 0 (length (line_starts f) + 0) (omega (arith, last.0)) in
    let at : length (line_starts f) + 0 - 1 ≡ length (line_starts f) - 1 = omega arith in
    ap (λ (t : Bool). cond t (get_or all (length (line_starts f) + 0 - 1) 0) 0) is
    ∙ (ap (λ (n : ℕ). get_or all n 0) at
    ∙ (ap (λ (s : List ℕ). get_or s (length (line_starts f) - 1) 0) (split_starts f (m ++ b) first)
    ∙ (get_or_append_left (line_starts f) (map (λ k. length f + k) (line_starts (m ++ b))) 0 (length (line_starts f) - 1)
    (omega (arith, last.0))
    ∙ (last.1 ∙ on))))

-- a line in the middle begins there
own_start : (f m b : List ℕ) → IsEnded f → IsEnded m → (l : ℕ) → l < length (line_starts m)
    → start_in (line_starts (f ++ (m ++ b))) (length (line_starts f) + l) ≡ length f + start_in (line_starts m) l
own_start [] m b first second zero below = refl
own_start (x ∷ xs) m b first second zero below = first_start (x ∷ xs) m b first second (omega arith) below
own_start f m b first second (suc l) below =
    let at : length (line_starts f) + suc l - 1 ≡ length (line_starts f) + l = omega arith in
    let own : suc l - 1 ≡ l = omega arith in
    let some : ltb 0 (length (line_starts f) + suc l) ≡ true = lt-ltb 0 (length (line_starts f) + suc l) (omega arith) in
    let all : List ℕ = line_starts (f ++ (m ++ b)) in
    ap (λ (t : Bool). cond t (get_or all (length (line_starts f) + suc l - 1) 0) 0) some
    ∙ (ap (λ (n : ℕ). get_or all n 0) at
    ∙ (next_start f m b first second l (omega arith)
    ∙ sym (ap (λ (n : ℕ). length f + n)
    (ap (λ (t : Bool). cond t (get_or (line_starts m) (suc l - 1) 0) 0) (lt-ltb 0 (suc l) (omega arith))
    ∙ ap (λ (n : ℕ). get_or (line_starts m) n 0) own))))

part_of_first : (m b : List ℕ) (s e : ℕ) → e ≤ length m → take (e - s) (drop s (m ++ b)) ≡ take (e - s) (drop s m)
part_of_first m b s e within =
    ⊎_elim
    (λ (ordered : s < e).
    sym (drop-take s (e - s) (m ++ b))
    ∙ (ap (drop s) (take-append-le (s + (e - s)) m b (omega arith)) ∙ drop-take s (e - s) m))
    (λ (none : e ≤ s).
    let n : e - s ≡ 0 = omega arith in
    ap (λ (k : ℕ). take k (drop s (m ++ b))) n ∙ sym (ap (λ (k : ℕ). take k (drop s m)) n))
    (cases_lt s e)

part_inside : (f m b : List ℕ) (s e : ℕ) → e ≤ length m
    → slice_range (f ++ (m ++ b)) (length f + s) (length f + e) ≡ slice_range m s e
part_inside f m b s e within =
    let size : length f + e - (length f + s) ≡ e - s = omega arith in
    ap (λ (n : ℕ). take n (drop (length f + s) (f ++ (m ++ b)))) size
    ∙ (ap (take (e - s)) (drop-append-add f (m ++ b) s) ∙ part_of_first m b s e within)

-- the byte of a position in a line of the middle part lies in this part, and has its position there
record Inside (f m : List ℕ) (byte : ℕ) (q : Position) : Type 0 where
  behind : length f ≤ byte
  before : byte - length f < length m
  position : IsPositionOf (line_starts m) m (byte - length f) q

inside : (f m b : List ℕ) → IsEnded f → IsEnded m → (byte : ℕ) (p q : Position) → p.line ≡ length (line_starts f) + q.line
    → p.unit ≡ q.unit → q.line < length (line_starts m) → IsPositionOf (line_starts (f ++ (m ++ b))) (f ++ (m ++ b)) byte p
    → Inside f m byte q
inside f m b first second byte p q line unit below is =
    let all : List ℕ = line_starts (f ++ (m ++ b)) in
    let own : List ℕ = line_starts m in
    let begins : start_in all p.line ≡ length f + start_in own q.line =
    ap (start_in all) line ∙ own_start f m b first second q.line below in
    let next : get_or all p.line 0 ≡ length f + get_or own q.line 0 =
    ap (λ (n : ℕ). get_or all n 0) line ∙ next_start f m b first second q.line below in
    let counted : length all ≡ length (line_starts f) + (length own + length (line_starts b)) =
    ap length (middle_starts f m b first second)
    ∙ (length-append (line_starts f) (map (λ k. length f + k) (own ++ map (λ k. length m + k) (line_starts b)))
    ∙ ap (λ (n : ℕ). length (line_starts f) + n)
    (length-map (own ++ map (λ k. length m + k) (line_starts b)) (λ k. length f + k)
    ∙ (length-append own (map (λ k. length m + k) (line_starts b))
    ∙ ap (λ (n : ℕ). length own + n) (length-map (line_starts b) (λ k. length m + k))))) in
    let ends : byte < get_or all p.line 0 = is.over (omega (arith, counted, line)) in
    let in_own : get_or own q.line 0 < 0 + (length m + 1) = filter_below (begins_line m) 0 (length m + 1) q.line below in
    let begun : start_in all p.line ≤ byte = is.begun in
    let behind : length f ≤ byte = omega (arith, begun, begins) in
    let back : length f + (byte - length f) ≡ byte = omega arith in
    let before : byte - length f < length m = omega (arith, ends, next, in_own, behind) in
    record {
      behind = behind;
      before = before;
      position = record {
        declared = omega arith;
        begun = omega (arith, begun, begins);
        over = λ less. omega (arith, ends, next, behind);
        unit = sym unit
            ∙ (is.unit
            ∙ (ap (λ (n : ℕ). units (slice_range (f ++ (m ++ b)) n byte)) begins
            ∙ (ap (λ (n : ℕ). units (slice_range (f ++ (m ++ b)) (length f + start_in own q.line) n)) (sym back)
            ∙ ap units (part_inside f m b (start_in own q.line) (byte - length f) (omega arith)))));
      };
    }

boundary_inside : (f m b : List ℕ) (byte : ℕ) (q : Position) → Inside f m byte q → IsBoundary (f ++ (m ++ b)) byte
    → IsBoundary m (byte - length f)
boundary_inside f m b byte q at is =
    let back : byte ≡ length f + (byte - length f) = omega (arith, at.behind) in
    let long : length (f ++ (m ++ b)) ≡ length f + (length m + length b) =
    length-append f (m ++ b) ∙ ap (λ (n : ℕ). length f + n) (length-append m b) in
    let same : get_or (f ++ (m ++ b)) byte 0 ≡ get_or m (byte - length f) 0 =
    ap (λ (n : ℕ). get_or (f ++ (m ++ b)) n 0) back
    ∙ (get_or-append-add f (m ++ b) (byte - length f) 0 ∙ get_or_append_left m b 0 (byte - length f) at.before) in
    record {
      within = omega (arith, at.before);
      begins = λ less. subst (λ (n : ℕ). 0 < weight n) same (is.begins (omega (arith, long, at.before, at.behind)));
    }

take_past : (xs ys : List ℕ) (n : ℕ) → take (length xs + n) (xs ++ ys) ≡ xs ++ take n ys
take_past [] ys n =
    let on : zero + n ≡ n = omega arith in
    ap (λ (k : ℕ). take k ys) on
take_past (x ∷ xs) ys n =
    let on : suc (length xs) + n ≡ suc (length xs + n) = omega arith in
    ap (λ (k : ℕ). take k (x ∷ (xs ++ ys))) on ∙ ap (λ (l : List ℕ). x ∷ l) (take_past xs ys n)

-- a part of the middle is replaced
spliced_inside : (f m b given : List ℕ) (s e : ℕ) → s ≤ length m → e ≤ length m
    → f ++ (spliced_text m s e given ++ b) ≡ spliced_text (f ++ (m ++ b)) (length f + s) (length f + e) given
spliced_inside f m b given s e begun ended =
    let behind : drop (length f + e) (f ++ (m ++ b)) ≡ drop e m ++ b = drop-append-add f (m ++ b) e ∙ drop-append-le e m b ended in
    let before : take (length f + s) (f ++ (m ++ b)) ≡ f ++ take s m =
    take_past f (m ++ b) s ∙ ap (λ (l : List ℕ). f ++ l) (take-append-le s m b begun) in
    ap (λ (l : List ℕ). f ++ l)
    (append_assoc (take s m) (given ++ drop e m) b ∙ ap (λ (l : List ℕ). take s m ++ l) (append_assoc given (drop e m) b))
    ∙ (sym (append_assoc f (take s m) (given ++ (drop e m ++ b)))
    ∙ (ap (λ (l : List ℕ). l ++ (given ++ (drop e m ++ b))) (sym before)
    ∙ ap (λ (l : List ℕ). take (length f + s) (f ++ (m ++ b)) ++ (given ++ l)) (sym behind)))

-- a text between two others is edited in a range of it, and so is the whole
pub edited_inside : (f m b given : List ℕ) → IsEnded f → IsEnded m → (place : Loc) (range inner : Range)
    → range.start.line ≡ length (line_starts f) + inner.start.line → range.start.unit ≡ inner.start.unit
    → inner.start.line < length (line_starts m) → range.end.line ≡ length (line_starts f) + inner.end.line
    → range.end.unit ≡ inner.end.unit → inner.end.line < length (line_starts m)
    → ((start end : ℕ) → start ≤ end → IsBoundary m start → IsBoundary m end → IsPositionOf (line_starts m) m start inner.start
    → IsPositionOf (line_starts m) m end inner.end → (place.start ≡ start) × (place.end ≡ end))
    → is_edited (f ++ (m ++ b)) (Some range) given (f ++ (spliced_text m place.start place.end given ++ b))
edited_inside f m b given first second place range inner sl su sb el eu eb found start end ordered begun ended starts ends =
    let s : Inside f m start inner.start = inside f m b first second start range.start inner.start sl su sb starts in
    let e : Inside f m end inner.end = inside f m b first second end range.end inner.end el eu eb ends in
    let at : (place.start ≡ start - length f) × (place.end ≡ end - length f) =
    found (start - length f) (end - length f) (omega (arith, ordered, s.behind))
    (boundary_inside f m b start inner.start s begun) (boundary_inside f m b end inner.end e ended) s.position e.position in
    let to_start : length f + place.start ≡ start = omega (arith, at.0, s.behind) in
    let to_end : length f + place.end ≡ end = omega (arith, at.1, e.behind) in
    spliced_inside f m b given place.start place.end (omega (arith, at.0, s.before)) (omega (arith, at.1, e.before))
    ∙ (ap (λ (n : ℕ). spliced_text (f ++ (m ++ b)) n (length f + place.end) given) to_start
    ∙ ap (λ (n : ℕ). spliced_text (f ++ (m ++ b)) start n given) to_end)

-- ---- ends

last_of_second : (xs ys : List ℕ) → 0 < length ys → get_or (xs ++ ys) (length (xs ++ ys) - 1) 0 ≡ get_or ys (length ys - 1) 0
last_of_second xs ys some =
    let at : length (xs ++ ys) - 1 ≡ length xs + (length ys - 1) = omega (arith, length-append xs ys) in
    ap (λ (n : ℕ). get_or (xs ++ ys) n 0) at ∙ get_or-append-add xs ys (length ys - 1) 0

-- a text of which a part before its end is replaced stays ended
pub stays_ended : (m given : List ℕ) (s e : ℕ) → IsEnded m → e < length m → IsEnded (spliced_text m s e given)
stays_ended m given s e ended inside some =
    let long : length (drop e m) ≡ length m - e = length-drop e m in
    let more : 0 < length (drop e m) = omega (arith, long) in
    let most : 0 < length (given ++ drop e m) = omega (arith, more, length-append given (drop e m)) in
    let at : e + (length (drop e m) - 1) ≡ length m - 1 = omega (arith, long) in
    last_of_second (take s m) (given ++ drop e m) most
    ∙ (last_of_second given (drop e m) more
    ∙ (get_or-drop e m (length (drop e m) - 1) 0
    ∙ (ap (λ (n : ℕ). get_or m n 0) at ∙ ended (omega arith))))
