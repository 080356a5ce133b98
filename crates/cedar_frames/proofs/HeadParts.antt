-- Heads of frames, part by part.
use Rattle.std.proofs.Common.{suc, Option, Some, take, drop, ◌≡◌, ◌∙◌, ℕ, ◌+◌, ◌-◌, ◌%◌, ◌<◌, ◌≤◌, ◌^◌, true, false, List, [], ◌∷◌, ◌++◌, length, get_or, codes, refl, sym, ap, append_assoc, length-append, arith, ⊎_elim}
use Rattle.std.specs.Char.{is_ascii_digit}
use Rattle.std.specs.Fmt.{decimal}
use Rattle.std.specs.List.{All}
use Rattle.std.proofs.Math.ListN.{drop_of_length-le}
use Rattle.std.proofs.Math.Seq.{drop-length}
use Rattle.std.proofs.lemmas.Bool.{cases_lt}
use Rattle.std.proofs.lemmas.Bool.Decides.{nat_tests}
use Rattle.std.proofs.lemmas.Fmt.{decimal_by_steps}
use Rattle.std.proofs.lemmas.List.{get_or_append_left, get_or-append_right, take_at, drop_at, take_all}
use Rattle.std.proofs.lemmas.List.Elements.{All-cons, All-nil, All-push, All-get_or}
use Rattle.cedar_frames.specs.declared.heads.Head.{Head}
use Rattle.cedar_frames.specs.Frames.{blank, frame, head, head_said}

abbrev IsDigit : ℕ → Type 0
IsDigit b = is_ascii_digit b ≡ true

digit_is : (n : ℕ) → n < 10 → is_ascii_digit (48 + n) ≡ true
digit_is n h = grind (arith, nat_tests)

-- the decimal form of a number consists of digits
pub digits_alone : (n : ℕ) → n < 2 ^ 64 → All IsDigit (decimal n)
digits_alone n h =
    decimal_by_steps (λ _ ds. All IsDigit ds) (λ n l. All-cons IsDigit (48 + n) [] (digit_is n l) (All-nil IsDigit))
    (λ n ds _ own. All-push IsDigit ds (48 + n % 10) own (digit_is (n % 10) (omega arith))) n h

-- the count of digits stops at the first other byte, so it is the number of digits before this byte
pub count_is : (bs ds rest : List ℕ) (b count : ℕ) → bs ≡ ds ++ (b ∷ rest) → All IsDigit ds → is_ascii_digit b ≡ false
    → count ≤ length bs → ((n : ℕ) → n < count → is_ascii_digit (get_or bs n 0) ≡ true)
    → (count < length bs → is_ascii_digit (get_or bs count 0) ≡ false) → count ≡ length ds
count_is bs ds rest b count e all other within digits end =
    let size : length bs ≡ length ds + suc (length rest) = ap length e ∙ length-append ds (b ∷ rest) in
    ⊎_elim
    (λ (below : count < length ds).
    let here : get_or bs count 0 ≡ get_or ds count 0 = ap (λ xs. get_or xs count 0) e ∙ get_or_append_left ds (b ∷ rest) 0 count below in
    let yes : is_ascii_digit (get_or ds count 0) ≡ true = All-get_or IsDigit ds count 0 below all in
    let no : is_ascii_digit (get_or bs count 0) ≡ false = end (omega arith) in
    cc)
    (λ (above : length ds ≤ count).
    ⊎_elim
    (λ (past : length ds < count).
    let none : length ds - length ds ≡ 0 = omega arith in
    let here : get_or bs (length ds) 0 ≡ b =
    ap (λ xs. get_or xs (length ds) 0) e ∙ get_or-append_right ds (b ∷ rest) (length ds) (length ds) 0 refl (omega arith)
    ∙ ap (λ k. get_or (b ∷ rest) k 0) none in
    let yes : is_ascii_digit (get_or bs (length ds) 0) ≡ true = digits (length ds) past in
    cc)
    (λ (same : count ≤ length ds). omega arith)
    (cases_lt (length ds) count))
    (cases_lt count (length ds))

-- a head consists of its name, its digits and an empty line
pub head_parts : (n : ℕ) (rest : List ℕ) → head n ++ rest ≡ codes "Content-Length: " ++ (decimal n ++ (blank ++ rest))
head_parts n rest =
    append_assoc (codes "Content-Length: ") (decimal n ++ blank) rest
    ∙ ap (λ xs. codes "Content-Length: " ++ xs) (append_assoc (decimal n) blank rest)

-- the counted bytes are the digits, and the bytes behind them are the rest
pub take_digits : (bs ds rest : List ℕ) (count : ℕ) → bs ≡ ds ++ rest → count ≡ length ds → take count bs ≡ ds
take_digits bs ds rest count e c =
    ap (λ k. take k bs) c ∙ (ap (λ xs. take (length ds) xs) e ∙ take_at ds rest (length ds) refl)

pub drop_digits : (bs ds rest : List ℕ) (count : ℕ) → bs ≡ ds ++ rest → count ≡ length ds
    → take (length bs - count) (drop count bs) ≡ rest
drop_digits bs ds rest count e c =
    let size : length bs ≡ length ds + length rest = ap length e ∙ length-append ds rest in
    ap (λ xs. take (length bs - count) xs) (ap (λ k. drop k bs) c ∙ (ap (λ xs. drop (length ds) xs) e ∙ drop_at ds rest (length ds) refl))
    ∙ take_all (length bs - count) rest (omega arith)

-- a head is read as `head_said` gives it, if its size and its length are right
pub head_found : (size said n : ℕ) → size ≡ length (head n) → said ≡ n
    → ◌≡◌ {A = Option Head} (Some (record { size = size; length = Some said })) (Some (head_said n))
head_found size said n e f =
    ap (λ (k : ℕ). let it : Head = record { size = k; length = Some said } in Some it) e
    ∙ ap (λ (k : ℕ). let it : Head = record { size = length (head n); length = Some k } in Some it) f

-- the head that is found at a framed message is the head of this message
pub found_of : (bs message rest : List ℕ) (it : Option Head)
    → ((n : ℕ) (others : List ℕ) → n < 18446744073709551616 → bs ≡ head n ++ others → it ≡ Some (head_said n))
    → length message ≤ 67108864 → bs ≡ frame message ++ rest → it ≡ Some (head_said (length message))
found_of bs message rest it usual h e =
    usual (length message) (message ++ rest) (omega arith) (e ∙ append_assoc (head (length message)) message rest)

-- the rest behind a front depends on the length of the front alone
pub behind_is : (bs first rest a b : List ℕ) → bs ≡ first ++ rest → bs ≡ a ++ b → length first ≡ length a → b ≡ rest
behind_is bs first rest a b e f h =
    sym (drop_at a b (length a) refl)
    ∙ (ap (λ (xs : List ℕ). drop (length a) xs) (sym f ∙ e) ∙ drop_at first rest (length a) h)

-- the bytes that are left behind a message of n bytes that is passed over, also if not all of it has come
pub left_is : (rest m l : List ℕ) (n passed : ℕ) → rest ≡ m ++ l → length m ≡ passed → passed ≤ length rest → passed ≤ n
    → (n ≤ length rest → passed ≡ n) → (length rest < n → passed ≡ length rest) → l ≡ drop n rest
left_is rest m l n passed e h w v all some =
    let here : l ≡ drop passed rest = sym (ap (λ (xs : List ℕ). drop passed xs) e ∙ drop_at m l passed h) in
    ⊎_elim
    (λ (over : length rest < n).
    here ∙ (ap (λ (k : ℕ). drop k rest) (some over) ∙ (drop-length rest ∙ sym (drop_of_length-le rest (omega arith)))))
    (λ (within : n ≤ length rest). here ∙ ap (λ (k : ℕ). drop k rest) (all within))
    (cases_lt (length rest) n)
