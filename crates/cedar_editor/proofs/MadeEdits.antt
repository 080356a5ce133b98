-- Edits, one after another, and the difference of two texts.
use Rattle.std.proofs.Common.{◌≡◌, ◌∙◌, ℕ, ◌+◌, ◌-◌, ◌<◌, ◌≤◌, Some, List, [], ◌∷◌, ◌++◌, length, take, drop, get_or, min, slice_range, refl, sym, ap, subst, arith, length-take, length-drop}
use Rattle.std.proofs.lemmas.List.{drop-drop, drop-take, take-append-drop, take-take, take_more}
use Rattle.cedar_editor.specs.Edits.{is_edited, spliced_text, AreEdited, IsChange, IsSpliced}
use Rattle.cedar_editor.specs.Lines.{line_starts, IsPositionOf}
use Rattle.cedar_editor.specs.Units.{IsBoundary}
use Rattle.cedar_editor.specs.declared.lines.Range.{Range}
use Rattle.cedar_types.specs.declared.base.location.Loc.{Loc}
use Rattle.cedar_editor.specs.declared.edits.Edit.{Edit}

one_edit_behind : (old : List ℕ) (es : List Edit) (e : Edit) (was new : List ℕ) → AreEdited old es was
    → is_edited was e.range e.text.now new → AreEdited old (es ++ e ∷ []) new
one_edit_behind old [] e was new same made =
    (new, subst (λ (text : List ℕ). is_edited text e.range e.text.now new) same made, refl)
one_edit_behind old (f ∷ es) e was new before made =
    (before.0, before.1, one_edit_behind before.0 es e was new before.2 made)

-- one more edit of a list
pub one_more_edit : (old : List ℕ) (es : List Edit) (i : ℕ) (d : Edit) (was new : List ℕ) → i < length es
    → AreEdited old (take i es) was → is_edited was (get_or es i d).range (get_or es i d).text.now new
    → AreEdited old (take (i + 1) es) new
one_more_edit old es i d was new below before made =
    subst (λ (fs : List Edit). AreEdited old fs new) (sym (take_more es i d below))
    (one_edit_behind old (take i es) (get_or es i d) was new before made)

front_parts : (xs : List ℕ) (at n : ℕ) → take (at + n) xs ≡ take at xs ++ take n (drop at xs)
front_parts xs at n =
    sym (take-append-drop at (take (at + n) xs))
    ∙ (ap (λ (l : List ℕ). l ++ drop at (take (at + n) xs)) (take-take at (at + n) xs (omega arith))
    ∙ ap (λ (l : List ℕ). take at xs ++ l) (drop-take at n xs))

-- texts that begin alike begin alike for a part more, if that is alike too
pub alike_further : (xs ys : List ℕ) (at next : ℕ) → at ≤ next → slice_range xs at next ≡ slice_range ys at next
    → take at xs ≡ take at ys → take next xs ≡ take next ys
alike_further xs ys at next on part front =
    let next_is : next ≡ at + (next - at) = omega arith in
    ap (λ (n : ℕ). take n xs) next_is
    ∙ (front_parts xs at (next - at)
    ∙ (ap (λ (l : List ℕ). l ++ take (next - at) (drop at xs)) front
    ∙ (ap (λ (l : List ℕ). take at ys ++ l) part
    ∙ (sym (front_parts ys at (next - at)) ∙ ap (λ (n : ℕ). take n ys) (sym next_is)))))

back_parts : (xs : List ℕ) (i n : ℕ) → drop i xs ≡ take n (drop i xs) ++ drop (i + n) xs
back_parts xs i n =
    sym (take-append-drop n (drop i xs)) ∙ ap (λ (l : List ℕ). take n (drop i xs) ++ l) (drop-drop n i xs)

-- texts that end alike end alike from a part before, if that is alike too
pub alike_before : (xs ys : List ℕ) (i j k l : ℕ) → i ≤ k → j ≤ l → k - i ≡ l - j → slice_range xs i k ≡ slice_range ys j l
    → drop k xs ≡ drop l ys → drop i xs ≡ drop j ys
alike_before xs ys i j k l at_one at_two size part back =
    let one : i + (k - i) ≡ k = omega arith in
    let two : l ≡ j + (l - j) = omega arith in
    back_parts xs i (k - i)
    ∙ (ap (λ (n : ℕ). take (k - i) (drop i xs) ++ drop n xs) one
    ∙ (ap (λ (m : List ℕ). m ++ drop k xs) part
    ∙ (ap (λ (m : List ℕ). take (l - j) (drop j ys) ++ m) (back ∙ ap (λ (n : ℕ). drop n ys) two)
    ∙ sym (back_parts ys j (l - j)))))

-- texts that begin alike and end alike differ in the part between
pub change_of : (old new : List ℕ) (start behind : ℕ) → start ≤ length old → start ≤ length new
    → behind ≤ min (length old) (length new) - start → take start old ≡ take start new
    → drop (length old - behind) old ≡ drop (length new - behind) new
    → IsChange old (record { start = start; end = length old - behind }) (length new - behind - start) new
change_of old new start behind in_old in_new few front back =
    let size : ℕ = length new - behind - start in
    let at : start + size ≡ length new - behind = omega arith in
    record {
      ordered = omega arith;
      within = omega arith;
      inserted = take size (drop start new);
      counted = omega (arith, length-take size (drop start new), length-drop start new);
      spliced = sym (take-append-drop start new)
          ∙ (ap (λ (l : List ℕ). l ++ drop start new) (sym front)
          ∙ ap (λ (l : List ℕ). take start old ++ l)
          (sym (take-append-drop size (drop start new))
          ∙ ap (λ (l : List ℕ). take size (drop start new) ++ l)
          (drop-drop size start new ∙ (ap (λ (n : ℕ). drop n new) at ∙ sym back))));
    }

-- a text is edited if the part between the bytes of the range is replaced
pub edited_at : (text : List ℕ) (place : Loc) (given new : List ℕ) (range : Range) (starts : List ℕ) → starts ≡ line_starts text
    → ((start end : ℕ) → start ≤ end → IsBoundary text start → IsBoundary text end → IsPositionOf starts text start range.start
    → IsPositionOf starts text end range.end → (place.start ≡ start) × (place.end ≡ end))
    → IsSpliced text place given new → is_edited text (Some range) given new
edited_at text place given new range starts lines is made start end ordered begun ended first last =
    let at : (place.start ≡ start) × (place.end ≡ end) =
    is start end ordered begun ended
    (subst (λ (l : List ℕ). IsPositionOf l text start range.start) (sym lines) first)
    (subst (λ (l : List ℕ). IsPositionOf l text end range.end) (sym lines) last) in
    made.part
    (record {
      ordered = omega (arith, at.0, at.1, ordered);
      begun = subst (λ (n : ℕ). IsBoundary text n) (sym at.0) begun;
      ended = subst (λ (n : ℕ). IsBoundary text n) (sym at.1) ended;
    })
    ∙ (ap (λ (n : ℕ). spliced_text text n place.end given) at.0 ∙ ap (λ (n : ℕ). spliced_text text start n given) at.1)
