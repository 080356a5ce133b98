use Rattle.std.proofs.Common.{◌≡◌, ℕ, ◌+◌, ◌<◌, true, List, [], ◌∷◌, ◌++◌, codes, refl, ap, subst, arith, zero, suc}
use Rattle.std.specs.Char.{encode_utf8}
use Rattle.std.specs.Prelude.{slice_index}
use Rattle.cedar_json.specs.Says.{Blanks, is_blank}
use Rattle.cedar_json.specs.Texts.{Unescapes, nothing, plain, escape, of_letter, of_unit, of_pair, line_feed as feed, paired}
use Rattle.cedar_json.proofs.Says.{no_blanks}
use Rattle.cedar_json.proofs.examples.examples_of_texts.Goals as goal

blank_at : (bytes : List ℕ) (low : ℕ) → is_blank (slice_index bytes low) ≡ true → Blanks bytes low (low + 1)
blank_at bytes low h = (omega arith, λ i l r. let same : low ≡ i = omega arith in subst (λ n. is_blank (slice_index bytes n) ≡ true) same h)

plain_byte : (b : ℕ) → 92 < b → Unescapes (b ∷ []) (b ∷ [])
plain_byte b h = plain b [] [] (omega arith, λ e. absurd (omega arith), λ e. absurd (omega arith)) nothing

no_comma_in : (i : ℕ) → slice_index (codes "[1 2]") i ≡ 44 → ⊥
no_comma_in zero e = absurd (omega (arith, e))
no_comma_in (suc zero) e = absurd (omega (arith, e))
no_comma_in (suc (suc zero)) e = absurd (omega (arith, e))
no_comma_in (suc (suc (suc zero))) e = absurd (omega (arith, e))
no_comma_in (suc (suc (suc (suc zero)))) e = absurd (omega (arith, e))
no_comma_in (suc (suc (suc (suc (suc n))))) e = absurd (omega (arith, e))

pub returns : goal.returns
unfolding encode_utf8
returns c = record {
  word = (blank_at (codes " true ") 0 refl, refl, blank_at (codes " true ") 5 refl);
  no_value = (no_blanks (codes "null") 0, refl, no_blanks (codes "null") 4);
  another_word = λ h. let e : 116 ≡ 102 = ap (λ xs. slice_index xs 0) h.1 in absurd (omega (arith, e));
  zero = (no_blanks (codes "-0") 0, (((omega arith, (omega arith, tt)), refl), (λ (e : 45 ≡ 43). absurd (omega arith), λ (h : 1 < 1). absurd (omega arith))), no_blanks (codes "-0") 2);
  of_array = (
    no_blanks (codes "[-20, \"a\"]") 0,
    (
      (omega arith, refl),
      (
        4,
        (
          no_blanks (codes "[-20, \"a\"]") 1,
          (((omega arith, (omega arith, (omega arith, tt))), refl), (λ (e : 45 ≡ 43). absurd (omega arith), λ h (e : 50 ≡ 48). absurd (omega arith))),
          no_blanks (codes "[-20, \"a\"]") 4,
        ),
        (
          (omega arith, refl),
          9,
          (
            blank_at (codes "[-20, \"a\"]") 5 refl,
            (omega arith, (omega arith, refl), (omega arith, refl), plain_byte 97 (omega arith)),
            no_blanks (codes "[-20, \"a\"]") 9,
          ),
          ((omega arith, refl), refl),
        ),
      ),
    ),
    no_blanks (codes "[-20, \"a\"]") 10,
  );
  empty = (no_blanks (codes "[ ]") 0, ((omega arith, refl), (2, blank_at (codes "[ ]") 1 refl, (omega arith, refl), refl)), no_blanks (codes "[ ]") 3);
  of_object = (
    no_blanks (codes "{\"a\": {}}") 0,
    (
      (omega arith, refl),
      (
        4,
        8,
        (
          no_blanks (codes "{\"a\": {}}") 1,
          (omega arith, (omega arith, refl), (omega arith, refl), plain_byte 97 (omega arith)),
          no_blanks (codes "{\"a\": {}}") 4,
          (omega arith, refl),
        ),
        (
          blank_at (codes "{\"a\": {}}") 5 refl,
          ((omega arith, refl), (7, no_blanks (codes "{\"a\": {}}") 7, (omega arith, refl), refl), tt),
          no_blanks (codes "{\"a\": {}}") 8,
        ),
        ((omega arith, refl), refl),
      ),
      (tt, tt),
    ),
    no_blanks (codes "{\"a\": {}}") 9,
  );
  no_plus = λ h. h.0 refl;
  no_zero = λ h. h.1 (omega arith) refl;
  no_negative_zero = λ h. h.1 (omega arith) refl;
  no_comma = λ h. no_comma_in h.1.1.0 h.1.1.2.0.1;
  same_key = λ x y h. h.0.0 refl;
  line_feed = (omega arith, (omega arith, refl), (omega arith, refl), escape (92 ∷ 110 ∷ []) 10 [] [] (of_letter 110 10 feed) nothing);
  by_code = (
    omega arith,
    (omega arith, refl),
    (omega arith, refl),
    escape (92 ∷ 117 ∷ codes "0041") 65 [] [] (of_unit (codes "0041") 65 (refl, (omega arith, (omega arith, (omega arith, (omega arith, tt)))), refl) refl) nothing,
  );
  by_pair = (
    omega arith,
    (omega arith, refl),
    (omega arith, refl),
    escape (92 ∷ 117 ∷ codes "d83d" ++ 92 ∷ 117 ∷ codes "de00") (paired 0xD83D 0xDE00) [] []
        (of_pair (codes "d83d") (codes "de00") 0xD83D 0xDE00 (refl, (omega arith, (omega arith, (omega arith, (omega arith, tt)))), refl) (omega arith, omega arith)
        (refl, (omega arith, (omega arith, (omega arith, (omega arith, tt)))), refl) (omega arith, omega arith)) nothing,
  );
}
