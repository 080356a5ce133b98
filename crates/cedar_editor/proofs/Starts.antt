-- Beginnings of lines in a text that has changed.
use Rattle.std.proofs.Common.{◌≡◌, ◌∙◌, ℕ, zero, suc, ◌+◌, ◌-◌, ◌<◌, ◌≤◌, Bool, true, false, not, ◌&&◌, ◌||◌, cond, eqb, ltb, List, [], ◌∷◌, ◌++◌, length, map, take, drop, get_or, refl, sym, ap, subst, arith, append_assoc, length-append, length-drop}
use Rattle.std.specs.List.{filter, range_with_len}
use Rattle.std.proofs.lemmas.Bool.{le-ltb, lt-ltb, and_right}
use Rattle.std.proofs.lemmas.List.{append-nil, get_or-drop, get_or-take, get_or_append_left, get_or-append_right, length-take-le}
use Rattle.std.proofs.lemmas.List.Elements.{filter-append}
use Rattle.cedar_editor.specs.Edits.{spliced_text}
use Rattle.cedar_editor.specs.Lines.{begins_line, line_starts}

-- ---- numbers in a row

pub range_parts : (a m n b : ℕ) → a + m ≡ b → range_with_len a (m + n) ≡ range_with_len a m ++ range_with_len b n
range_parts a zero n b e =
    let on : zero + n ≡ n = omega arith in
    let at : a ≡ b = omega arith in
    ap (range_with_len a) on ∙ ap (λ (k : ℕ). range_with_len k n) at
range_parts a (suc m) n b e =
    let on : suc m + n ≡ suc (m + n) = omega arith in
    ap (range_with_len a) on ∙ ap (λ (l : List ℕ). a ∷ l) (range_parts (a + 1) m n b (omega arith))

-- two tests that agree on a row keep the same numbers of it
pub filter_same : (p q : ℕ → Bool) (a n : ℕ) → ((k : ℕ) → a ≤ k → k < a + n → p k ≡ q k)
    → filter p (range_with_len a n) ≡ filter q (range_with_len a n)
filter_same p q a zero h = refl
filter_same p q a (suc n) h =
    let rest : filter p (range_with_len (a + 1) n) ≡ filter q (range_with_len (a + 1) n) =
    filter_same p q (a + 1) n (λ k low high. h k (omega arith) (omega arith)) in
    ap (λ b. cond b (a ∷ filter p (range_with_len (a + 1) n)) (filter p (range_with_len (a + 1) n))) (h a (omega arith) (omega arith))
    ∙ ap (λ l. cond (q a) (a ∷ l) l) rest

-- a test that passes no number of a row keeps none of it
filter_none : (p : ℕ → Bool) (a n : ℕ) → ((k : ℕ) → a ≤ k → k < a + n → p k ≡ false) → filter p (range_with_len a n) ≡ []
filter_none p a zero h = refl
filter_none p a (suc n) h =
    ap (λ b. cond b (a ∷ filter p (range_with_len (a + 1) n)) (filter p (range_with_len (a + 1) n))) (h a (omega arith) (omega arith))
    ∙ filter_none p (a + 1) n (λ k low high. h k (omega arith) (omega arith))

one_moved : (f : ℕ → ℕ) (a b : ℕ) (x y : Bool) (xs ys : List ℕ) → f a ≡ b → x ≡ y → map f xs ≡ ys
    → map f (cond x (a ∷ xs) xs) ≡ cond y (b ∷ ys) ys
one_moved f a b x true xs ys moved kept rest =
    ap (λ (c : Bool). map f (cond c (a ∷ xs) xs)) kept ∙ (ap (λ (k : ℕ). k ∷ map f xs) moved ∙ ap (λ (l : List ℕ). b ∷ l) rest)
one_moved f a b x false xs ys moved kept rest = ap (λ (c : Bool). map f (cond c (a ∷ xs) xs)) kept ∙ rest

-- the numbers that a test keeps of a row are moved to those that another test keeps of another row
pub filter_moved : (f : ℕ → ℕ) (p q : ℕ → Bool) (a b n : ℕ) → ((i : ℕ) → i < n → (f (a + i) ≡ b + i) × (p (a + i) ≡ q (b + i)))
    → map f (filter p (range_with_len a n)) ≡ filter q (range_with_len b n)
filter_moved f p q a b zero h = refl
filter_moved f p q a b (suc n) h =
    let at_a : a + 0 ≡ a = omega arith in
    let at_b : b + 0 ≡ b = omega arith in
    let moved : f a ≡ b = subst (λ (k : ℕ). f k ≡ b) at_a ((h 0 (omega arith)).0 ∙ at_b) in
    let kept : p a ≡ q b = sym (ap p at_a) ∙ ((h 0 (omega arith)).1 ∙ ap q at_b) in
    let rest : map f (filter p (range_with_len (a + 1) n)) ≡ filter q (range_with_len (b + 1) n) =
    filter_moved f p q (a + 1) (b + 1) n (λ i less.
    let on_a : a + (i + 1) ≡ a + 1 + i = omega arith in
    let on_b : b + (i + 1) ≡ b + 1 + i = omega arith in
    let both : (f (a + (i + 1)) ≡ b + (i + 1)) × (p (a + (i + 1)) ≡ q (b + (i + 1))) = h (i + 1) (omega arith) in
    (sym (ap f on_a) ∙ (both.0 ∙ on_b), sym (ap p on_a) ∙ (both.1 ∙ ap q on_b))) in
    one_moved f a b (p a) (q b) (filter p (range_with_len (a + 1) n)) (filter q (range_with_len (b + 1) n)) moved kept rest

one_both : (q : ℕ → Bool) (x : ℕ) (a : Bool) (ys zs : List ℕ) → filter q ys ≡ zs
    → filter q (cond a (x ∷ ys) ys) ≡ cond (a && q x) (x ∷ zs) zs
one_both q x true ys zs e = ap (λ (l : List ℕ). cond (q x) (x ∷ l) l) e
one_both q x false ys zs e = e

-- one test behind another keeps what both pass
filter_both : (p q : ℕ → Bool) (xs : List ℕ) → filter q (filter p xs) ≡ filter (λ k. p k && q k) xs
filter_both p q [] = refl
filter_both p q (x ∷ xs) = one_both q x (p x) (filter p xs) (filter (λ k. p k && q k) xs) (filter_both p q xs)

-- one more number of a row
row_more : (p : ℕ → Bool) (a k : ℕ) → a ≤ k
    → filter p (range_with_len a (k + 1 - a)) ≡ filter p (range_with_len a (k - a)) ++ cond (p k) (k ∷ []) []
row_more p a k within =
    let on : k + 1 - a ≡ (k - a) + 1 = omega arith in
    ap (λ (n : ℕ). filter p (range_with_len a n)) on
    ∙ (ap (filter p) (range_parts a (k - a) 1 k (omega arith))
    ∙ filter-append p (range_with_len a (k - a)) (range_with_len k 1))

-- one more byte at which a line begins, or does not begin
pub one_more_start : (p : ℕ → Bool) (a k : ℕ) (b : Bool) (first was now : List ℕ) → a ≤ k → p k ≡ b
    → was ≡ first ++ filter p (range_with_len a (k - a)) → now ≡ was ++ cond b (k ∷ []) []
    → now ≡ first ++ filter p (range_with_len a (k + 1 - a))
one_more_start p a k b first was now within is before more =
    more
    ∙ (ap (λ (l : List ℕ). l ++ cond b (k ∷ []) []) before
    ∙ (append_assoc first (filter p (range_with_len a (k - a))) (cond b (k ∷ []) [])
    ∙ ap (λ (l : List ℕ). first ++ l)
    (ap (λ (c : Bool). filter p (range_with_len a (k - a)) ++ cond c (k ∷ []) []) (sym is) ∙ sym (row_more p a k within))))

-- ---- lines

pub begins_same : (bs cs : List ℕ) (m n : ℕ) → ltb 0 m ≡ ltb 0 n → get_or bs (m - 1) 0 ≡ get_or cs (n - 1) 0 → get_or bs m 0 ≡ get_or cs n 0
    → begins_line bs m ≡ begins_line cs n
begins_same bs cs m n first before at =
    ap (λ (a : Bool). a && (eqb (get_or bs (m - 1) 0) 10 || (eqb (get_or bs (m - 1) 0) 13 && not (eqb (get_or bs m 0) 10)))) first
    ∙ (ap (λ (b : ℕ). ltb 0 n && (eqb b 10 || (eqb b 13 && not (eqb (get_or bs m 0) 10)))) before
    ∙ ap (λ (c : ℕ). ltb 0 n && (eqb (get_or cs (n - 1) 0) 10 || (eqb (get_or cs (n - 1) 0) 13 && not (eqb c 10)))) at)

-- the bytes before a change stay
byte_before : (old inserted : List ℕ) (start end k : ℕ) → start ≤ length old → k < start
    → get_or (spliced_text old start end inserted) k 0 ≡ get_or old k 0
byte_before old inserted start end k within below =
    get_or_append_left (take start old) (inserted ++ drop end old) 0 k (omega (arith, length-take-le start old within))
    ∙ get_or-take start old k 0 below

-- the bytes behind a change move with its end
byte_behind : (old inserted : List ℕ) (start end i : ℕ) → start ≤ length old
    → get_or (spliced_text old start end inserted) (start + length inserted + i) 0 ≡ get_or old (end + i) 0
byte_behind old inserted start end i within =
    let long : length (take start old) ≡ start = length-take-le start old within in
    let first : start + length inserted + i - start ≡ length inserted + i = omega arith in
    let second : length inserted + i - length inserted ≡ i = omega arith in
    get_or-append_right (take start old) (inserted ++ drop end old) start (start + length inserted + i) 0 long (omega arith)
    ∙ (ap (λ (k : ℕ). get_or (inserted ++ drop end old) k 0) first
    ∙ (get_or-append_right inserted (drop end old) (length inserted) (length inserted + i) 0 refl (omega arith)
    ∙ (ap (λ (k : ℕ). get_or (drop end old) k 0) second
    ∙ get_or-drop end old i 0)))

lines_before : (old inserted : List ℕ) (start end k : ℕ) → start ≤ length old → k < start
    → begins_line old k ≡ begins_line (spliced_text old start end inserted) k
lines_before old inserted start end k within below =
    begins_same old (spliced_text old start end inserted) k k refl
    (sym (byte_before old inserted start end (k - 1) within (omega arith)))
    (sym (byte_before old inserted start end k within below))

lines_behind : (old inserted : List ℕ) (start end i : ℕ) → start ≤ length old
    → begins_line old (end + 1 + i) ≡ begins_line (spliced_text old start end inserted) (start + length inserted + 1 + i)
lines_behind old inserted start end i within =
    let new : List ℕ = spliced_text old start end inserted in
    let last_old : end + 1 + i - 1 ≡ end + i = omega arith in
    let last_new : start + length inserted + 1 + i - 1 ≡ start + length inserted + i = omega arith in
    let at_old : end + 1 + i ≡ end + (i + 1) = omega arith in
    let at_new : start + length inserted + 1 + i ≡ start + length inserted + (i + 1) = omega arith in
    begins_same old new (end + 1 + i) (start + length inserted + 1 + i)
    (lt-ltb 0 (end + 1 + i) (omega arith) ∙ sym (lt-ltb 0 (start + length inserted + 1 + i) (omega arith)))
    (ap (λ (k : ℕ). get_or old k 0) last_old
    ∙ (sym (byte_behind old inserted start end i within) ∙ sym (ap (λ (k : ℕ). get_or new k 0) last_new)))
    (ap (λ (k : ℕ). get_or old k 0) at_old
    ∙ (sym (byte_behind old inserted start end (i + 1) within) ∙ sym (ap (λ (k : ℕ). get_or new k 0) at_new)))

passes : (a b c : Bool) → b ≡ true → a ≡ c → (a && b) ≡ c
passes true b c is same = is ∙ same
passes false b c is same = same

pub length_spliced : (old inserted : List ℕ) (start end : ℕ) → start ≤ end → end ≤ length old
    → length (spliced_text old start end inserted) ≡ start + (length inserted + (length old - end))
length_spliced old inserted start end ordered within =
    length-append (take start old) (inserted ++ drop end old)
    ∙ (ap (λ (m : ℕ). m + length (inserted ++ drop end old)) (length-take-le start old (omega arith))
    ∙ ap (λ (m : ℕ). start + m)
    (length-append inserted (drop end old) ∙ ap (λ (m : ℕ). length inserted + m) (length-drop end old)))

-- the lines of a changed text: those before the change, those that begin in it or right behind it, and those behind it
pub changed_starts : (old inserted : List ℕ) (start end : ℕ) (moved : ℕ → ℕ) → start ≤ end → end ≤ length old
    → ((i : ℕ) → i < length old - end → moved (end + 1 + i) ≡ start + length inserted + 1 + i)
    → let new = spliced_text old start end inserted in
    line_starts new ≡ (filter (λ k. ltb k start) (line_starts old)
    ++ filter (begins_line new) (range_with_len start (length inserted + 1)))
    ++ map moved (filter (λ k. ltb end k) (line_starts old))
changed_starts old inserted start end moved ordered within at =
    let new : List ℕ = spliced_text old start end inserted in
    let n : ℕ = length inserted in
    let left : ℕ = length old - end in
    let in_old : length old + 1 ≡ start + (length old + 1 - start) = omega arith in
    let in_old_behind : length old + 1 ≡ (end + 1) + left = omega arith in
    let before : filter (λ k. ltb k start) (line_starts old) ≡ filter (begins_line new) (range_with_len 0 start) =
    filter_both (begins_line old) (λ k. ltb k start) (range_with_len 0 (length old + 1))
    ∙ (ap (λ (m : ℕ). filter (λ k. begins_line old k && ltb k start) (range_with_len 0 m)) in_old
    ∙ (ap (filter (λ k. begins_line old k && ltb k start)) (range_parts 0 start (length old + 1 - start) start (omega arith))
    ∙ (filter-append (λ k. begins_line old k && ltb k start) (range_with_len 0 start) (range_with_len start (length old + 1 - start))
    ∙ (ap (λ (l : List ℕ). l ++ filter (λ k. begins_line old k && ltb k start) (range_with_len start (length old + 1 - start)))
    (filter_same (λ k. begins_line old k && ltb k start) (begins_line new) 0 start
    (λ k low high. passes (begins_line old k) (ltb k start) (begins_line new k) (lt-ltb k start (omega arith))
    (lines_before old inserted start end k (omega arith) (omega arith))))
    ∙ (ap (λ (l : List ℕ). filter (begins_line new) (range_with_len 0 start) ++ l)
    (filter_none (λ k. begins_line old k && ltb k start) start (length old + 1 - start)
    (λ k low high. and_right (begins_line old k) (ltb k start) (le-ltb k start (omega arith))))
    ∙ append-nil (filter (begins_line new) (range_with_len 0 start))))))) in
    let behind : map moved (filter (λ k. ltb end k) (line_starts old)) ≡ filter (begins_line new) (range_with_len (start + n + 1) left) =
    ap (map moved)
    (filter_both (begins_line old) (λ k. ltb end k) (range_with_len 0 (length old + 1))
    ∙ (ap (λ (m : ℕ). filter (λ k. begins_line old k && ltb end k) (range_with_len 0 m)) in_old_behind
    ∙ (ap (filter (λ k. begins_line old k && ltb end k)) (range_parts 0 (end + 1) left (end + 1) (omega arith))
    ∙ (filter-append (λ k. begins_line old k && ltb end k) (range_with_len 0 (end + 1)) (range_with_len (end + 1) left)
    ∙ ap (λ (l : List ℕ). l ++ filter (λ k. begins_line old k && ltb end k) (range_with_len (end + 1) left))
    (filter_none (λ k. begins_line old k && ltb end k) 0 (end + 1)
    (λ k low high. and_right (begins_line old k) (ltb end k) (le-ltb end k (omega arith))))))))
    ∙ filter_moved moved (λ k. begins_line old k && ltb end k) (begins_line new) (end + 1) (start + n + 1) left
    (λ i less. (
      at i less,
      passes (begins_line old (end + 1 + i)) (ltb end (end + 1 + i)) (begins_line new (start + n + 1 + i))
          (lt-ltb end (end + 1 + i) (omega arith)) (lines_behind old inserted start end i (omega arith)),
    )) in
    let long : length new ≡ start + (n + left) = length_spliced old inserted start end ordered within in
    let size : length new + 1 ≡ start + ((n + 1) + left) = omega (arith, long) in
    ap (λ (m : ℕ). filter (begins_line new) (range_with_len 0 m)) size
    ∙ (ap (filter (begins_line new)) (range_parts 0 start ((n + 1) + left) start (omega arith))
    ∙ (filter-append (begins_line new) (range_with_len 0 start) (range_with_len start ((n + 1) + left))
    ∙ (ap (λ (l : List ℕ). filter (begins_line new) (range_with_len 0 start) ++ filter (begins_line new) l)
    (range_parts start (n + 1) left (start + n + 1) (omega arith))
    ∙ (ap (λ (l : List ℕ). filter (begins_line new) (range_with_len 0 start) ++ l)
    (filter-append (begins_line new) (range_with_len start (n + 1)) (range_with_len (start + n + 1) left))
    ∙ (sym (append_assoc (filter (begins_line new) (range_with_len 0 start)) (filter (begins_line new) (range_with_len start (n + 1)))
    (filter (begins_line new) (range_with_len (start + n + 1) left)))
    ∙ (ap (λ (l : List ℕ). (l ++ filter (begins_line new) (range_with_len start (n + 1)))
    ++ filter (begins_line new) (range_with_len (start + n + 1) left)) (sym before)
    ∙ ap (λ (l : List ℕ). (filter (λ k. ltb k start) (line_starts old) ++ filter (begins_line new) (range_with_len start (n + 1))) ++ l)
    (sym behind)))))))
