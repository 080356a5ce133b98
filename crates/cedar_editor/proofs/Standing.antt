-- Policies that stand in a changed text.
use Rattle.std.proofs.Common.{◌≡◌, ◌∙◌, ℕ, ◌+◌, ◌-◌, ◌<◌, ◌≤◌, List, ◌++◌, All, length, take, drop, get_or, min, refl, sym, ap, subst, arith, length-take, length-drop, slice_range, string_bytes, ⊎_elim}
use Rattle.std.proofs.lemmas.Bool.{cases_lt}
use Rattle.std.proofs.lemmas.List.{drop-drop, drop-take, drop_at, length-take-le, nil_from_length, take-append-le, take-take}
use Rattle.cedar_editor.specs.Documents.{moved_policy, stands_at, AllStandIn, BeginsBehind, EndsBy, StandsIn}
use Rattle.cedar_editor.specs.Edits.{spliced_text, IsChange}
use Rattle.cedar_editor.specs.Lines.{moved_byte}
use Rattle.cedar_types.specs.declared.base.location.Loc.{Loc}
use Rattle.cedar_editor.specs.declared.checks.CheckedPolicy.{CheckedPolicy}
use Rattle.cedar_editor.specs.declared.documents.PlacedPolicy.{PlacedPolicy}
use Rattle.cedar_editor.proofs.Starts.{length_spliced}

-- a part before a change stays
part_before : (old inserted : List ℕ) (start end from n : ℕ) → start ≤ length old → from + n ≤ start
    → take n (drop from (spliced_text old start end inserted)) ≡ take n (drop from old)
part_before old inserted start end from n within below =
    sym (drop-take from n (spliced_text old start end inserted))
    ∙ (ap (drop from)
    (take-append-le (from + n) (take start old) (inserted ++ drop end old) (omega (arith, length-take-le start old within))
    ∙ take-take (from + n) start old below)
    ∙ drop-take from n old)

-- all behind a change moves with its end
rest_behind : (old inserted : List ℕ) (start end k : ℕ) → start ≤ length old
    → drop (start + length inserted + k) (spliced_text old start end inserted) ≡ drop (end + k) old
rest_behind old inserted start end k within =
    let new : List ℕ = spliced_text old start end inserted in
    sym (drop-drop k (start + length inserted) new)
    ∙ (ap (drop k)
    (sym (drop-drop (length inserted) start new)
    ∙ (ap (drop (length inserted)) (drop_at (take start old) (inserted ++ drop end old) start (length-take-le start old within))
    ∙ drop_at inserted (drop end old) (length inserted) refl))
    ∙ drop-drop k end old)

-- a text that stands in another one is no longer than the rest of it
fits : (text part : List ℕ) (from : ℕ) → take (from + length part - from) (drop from text) ≡ part → length part ≤ length text - from
fits text part from is =
    omega (arith, ap length is, length-take (from + length part - from) (drop from text), length-drop from text)

-- a text without letters stands everywhere
empty_stands : (text part : List ℕ) (from : ℕ) → length part ≡ 0 → take (from + length part - from) (drop from text) ≡ part
empty_stands text part from none =
    let n : from + length part - from ≡ 0 = omega (arith, none) in
    ap (λ (k : ℕ). take k (drop from text)) n ∙ sym (nil_from_length part none)

-- a policy stands where its text stands
pub stands_of : (text own : List ℕ) (start : ℕ) (p : CheckedPolicy) → string_bytes p.text ≡ own
    → slice_range text start (start + length own) ≡ own → stands_at text start p
stands_of text own start p is stands =
    subst (λ (t : List ℕ). slice_range text start (start + length t) ≡ t) (sym is) stands

-- a policy that ends before a change stands in the changed text
pub stands_before : (old new : List ℕ) (place : Loc) (size : ℕ) → IsChange old place size new → (p : PlacedPolicy)
    → EndsBy place.start p → StandsIn old p → StandsIn new p
stands_before old new place size change p ends stands =
    let text : List ℕ = string_bytes p.policy.value.text in
    let n : ℕ = p.start + length text - p.start in
    ap (λ (t : List ℕ). take n (drop p.start t)) change.spliced
    ∙ (part_before old change.inserted place.start place.end p.start n (omega (arith, change.ordered, change.within)) (omega (arith, ends))
    ∙ stands)

moved_stands : (old inserted part : List ℕ) (start end from to : ℕ) → start ≤ length old → end ≤ from
    → to ≡ start + length inserted + (from - end) → take (from + length part - from) (drop from old) ≡ part
    → take (to + length part - to) (drop to (spliced_text old start end inserted)) ≡ part
moved_stands old inserted part start end from to within behind is stands =
    let n : to + length part - to ≡ from + length part - from = omega arith in
    let at : end + (from - end) ≡ from = omega arith in
    let new : List ℕ = spliced_text old start end inserted in
    ap (λ (k : ℕ). take k (drop to new)) n
    ∙ (ap (λ (k : ℕ). take (from + length part - from) (drop k new)) is
    ∙ (ap (take (from + length part - from)) (rest_behind old inserted start end (from - end) within)
    ∙ (ap (λ (k : ℕ). take (from + length part - from) (drop k old)) at
    ∙ stands)))

-- a policy that begins behind a change stands in the changed text at its place after the change
pub stands_behind : (old new : List ℕ) (place : Loc) (size new_end : ℕ) → IsChange old place size new
    → length new ≤ 18446744073709551615 → new_end ≡ min (place.start + size) 18446744073709551615 → (p : PlacedPolicy)
    → BeginsBehind place.end p → StandsIn old p → stands_at new (moved_byte place.end new_end p.start) p.policy.value
stands_behind old new place size new_end change bound is p behind stands =
    let part : List ℕ = string_bytes p.policy.value.text in
    let to : ℕ = moved_byte place.end new_end p.start in
    let long : length new ≡ place.start + (length change.inserted + (length old - place.end)) =
    ap length change.spliced ∙ length_spliced old change.inserted place.start place.end change.ordered change.within in
    let few : length part ≤ length old - p.start = fits old part p.start stands in
    ⊎_elim
    (λ (some : 0 < length part).
    subst (λ (t : List ℕ). take (to + length part - to) (drop to t) ≡ part) (sym change.spliced)
    (moved_stands old change.inserted part place.start place.end p.start to (omega (arith, change.ordered, change.within))
    (omega (arith, behind)) (omega (arith, is, long, few, bound, behind, change.counted, change.within)) stands))
    (λ (none : length part ≤ 0). empty_stands new part to (omega arith))
    (cases_lt 0 (length part))

-- all policies that end before a change stand in the changed text
pub all_stand_before : (old new : List ℕ) (place : Loc) (size : ℕ) → IsChange old place size new → (ps : List PlacedPolicy)
    → All (EndsBy place.start) ps → AllStandIn old ps → AllStandIn new ps
all_stand_before old new place size change ps end stand k d below =
    stands_before old new place size change (get_or ps k d) (end k d below) (stand k d below)

-- all policies that begin behind a change stand in the changed text at their places after the change
pub all_stand_behind : (old new : List ℕ) (place : Loc) (size new_end : ℕ) → IsChange old place size new
    → length new ≤ 18446744073709551615 → new_end ≡ min (place.start + size) 18446744073709551615 → (ps : List PlacedPolicy)
    → All (BeginsBehind place.end) ps → AllStandIn old ps
    → All (λ (p : PlacedPolicy). stands_at new (moved_policy place.end new_end p).0 (moved_policy place.end new_end p).1) ps
all_stand_behind old new place size new_end change bound is ps begin stand k d below =
    stands_behind old new place size new_end change bound is (get_or ps k d) (begin k d below) (stand k d below)
