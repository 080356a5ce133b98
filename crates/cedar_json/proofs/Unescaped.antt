-- Meanings of the bytes between quotes, part by part.
use Rattle.std.proofs.Common.{◌≡◌, ◌∙◌, ℕ, ◌+◌, ◌<◌, ◌≤◌, List, [], ◌∷◌, ◌++◌, length, sym, ap, subst, append_assoc, append-nil, zero, suc, arith}
use Rattle.std.specs.Prelude.{slice_range, slice_index}
use Rattle.cedar_json.specs.Texts.{IsPlain, ArePlain, Unescapes, nothing, plain, escape, AddsEscape}
use Rattle.cedar_json.proofs.Ranges.{joined, first, empty}
use Rattle.std.specs.Char.{encode_utf8}

-- plain bytes before other bytes say themselves
pub plain_first : (run bytes said : List ℕ) → ArePlain run → Unescapes bytes said → Unescapes (run ++ bytes) (run ++ said)
plain_first [] bytes said h u = u
plain_first (b ∷ run) bytes said h u = plain b (run ++ bytes) (run ++ said) h.0 (plain_first run bytes said h.1 u)

-- the bytes done so far, with any rest, say their text and the text of the rest
abbrev pub Completes : List ℕ → ℕ → ℕ → List ℕ → Type 0
Completes bytes low at done = (stop : ℕ) (said : List ℕ) → at ≤ stop → Unescapes (slice_range bytes at stop) said → Unescapes (slice_range bytes low stop) (done ++ said)

pub begun : (bytes : List ℕ) (low : ℕ) → Completes bytes low low []
begun bytes low stop said h u = u

pub with_plain : (bytes : List ℕ) (low at next : ℕ) (done more : List ℕ) → low ≤ at → at ≤ next → Completes bytes low at done
    → ArePlain (slice_range bytes at next) → more ≡ done ++ slice_range bytes at next → Completes bytes low next more
with_plain bytes low at next done more l h c p e stop said k u =
    let run = slice_range bytes at next in
    let before : Unescapes (run ++ slice_range bytes next stop) (run ++ said) = plain_first run (slice_range bytes next stop) said p u in
    let from : Unescapes (slice_range bytes at stop) (run ++ said) = subst (λ bs. Unescapes bs (run ++ said)) (joined bytes at next stop h k) before in
    let whole : Unescapes (slice_range bytes low stop) (done ++ (run ++ said)) = c stop (run ++ said) (omega arith) from in
    subst (λ xs. Unescapes (slice_range bytes low stop) xs) (sym (append_assoc done run said) ∙ ap (λ xs. xs ++ said) (sym e)) whole

pub with_escape : (bytes : List ℕ) (low at next : ℕ) (done more : List ℕ) → low ≤ at → at ≤ next → Completes bytes low at done
    → AddsEscape (slice_range bytes at next) done more → Completes bytes low next more
with_escape bytes low at next done more l h c a stop said k u =
    let run = slice_range bytes at next in
    let c₁ = a.0 in
    let before : Unescapes (run ++ slice_range bytes next stop) (encode_utf8 c₁ ++ said) = escape run c₁ (slice_range bytes next stop) said a.1 u in
    let from : Unescapes (slice_range bytes at stop) (encode_utf8 c₁ ++ said) = subst (λ bs. Unescapes bs (encode_utf8 c₁ ++ said)) (joined bytes at next stop h k) before in
    let whole : Unescapes (slice_range bytes low stop) (done ++ (encode_utf8 c₁ ++ said)) = c stop (encode_utf8 c₁ ++ said) (omega arith) from in
    subst (λ xs. Unescapes (slice_range bytes low stop) xs) (sym (append_assoc done (encode_utf8 c₁) said) ∙ ap (λ xs. xs ++ said) (sym a.2)) whole

-- the bytes say the text that is done, because no rest is left
pub ended : (bytes : List ℕ) (low at : ℕ) (done : List ℕ) → Completes bytes low at done → Unescapes (slice_range bytes low at) done
ended bytes low at done c =
    let none : Unescapes (slice_range bytes at at) [] = subst (λ bs. Unescapes bs []) (sym (empty bytes at)) nothing in
    subst (λ xs. Unescapes (slice_range bytes low at) xs) (append-nil done) (c at [] (omega arith) none)

-- a part is plain if each of its bytes is
pub all_plain : (n : ℕ) (bytes : List ℕ) (at next : ℕ) → at + n ≡ next → next ≤ length bytes
    → ((i : ℕ) → at ≤ i → i < next → IsPlain (slice_index bytes i)) → ArePlain (slice_range bytes at next)
all_plain zero bytes at next e h p =
    let same : next ≡ at = omega arith in
    subst (λ n. ArePlain (slice_range bytes at n)) (sym same) (subst ArePlain (sym (empty bytes at)) tt)
all_plain (suc n) bytes at next e h p =
    let rest : ArePlain (slice_range bytes (at + 1) next) = all_plain n bytes (at + 1) next (omega arith) h (λ i l r. p i (omega arith) r) in
    subst ArePlain (sym (first bytes at next (omega arith) (omega arith))) (p at (omega arith) (omega arith), rest)
