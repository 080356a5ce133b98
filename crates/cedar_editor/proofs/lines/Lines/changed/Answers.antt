use Rattle.std.proofs.Common.{◌≡◌, ◌∙◌, ℕ, ◌+◌, ◌-◌, ◌<◌, ◌++◌, List, length, map, ap, sym, arith, filter, nat_lt}
use Rattle.std.specs.List.{range_with_len}
use Rattle.cedar_editor.specs.Edits.{spliced_text}
use Rattle.cedar_editor.specs.Lines.{begins_line, line_starts, moved_byte}
use Rattle.cedar_editor.proofs.Starts.{changed_starts, length_spliced}
use Rattle.cedar_editor.proofs.lines.Lines.changed.Goals as goal

pub returns : goal.returns
returns c = λ old given same ordered within size is.
    let start : ℕ = c.args.place.start in
    let end : ℕ = c.args.place.end in
    let new_end : ℕ = c.min-end.result in
    let new : List ℕ = spliced_text old start end given in
    let long : length c.args.text.now ≡ start + (length given + (length old - end)) =
    ap length is ∙ length_spliced old given start end ordered within in
    let end_is : new_end ≡ start + length given =
    omega (arith, long, size, c.len.ensures, c.min-end.ensures, c.saturating_add.ensures) in
    let at : (i : ℕ) → i < length old - end → moved_byte end new_end (end + 1 + i) ≡ start + length given + 1 + i =
    λ i less. omega (arith, end_is, long, c.len.ensures) in
    let count : new_end + 1 - start ≡ length given + 1 = omega (arith, end_is) in
    let before : c.add_before.new.kept.items ≡ filter (λ k. nat_lt k start) (line_starts old) =
    c.in_ok-add_before.ensures
    ∙ (ap (λ (l : List ℕ). l ++ filter (λ k. nat_lt k start) c.deref.result.now) c.in_ok-starts.ensures.items
    ∙ ap (filter (λ k. nat_lt k start)) (c.deref.ensures.value ∙ same)) in
    let within_new : c.add_starts.new.starts.items
    ≡ c.add_before.new.kept.items ++ filter (begins_line new) (range_with_len start (length given + 1)) =
    c.in_ok-add_starts.ensures (omega (arith, end_is, long, ap length c.as_bytes.ensures.value)) (omega (arith, end_is))
    ∙ (ap (λ (t : List ℕ). c.add_before.new.kept.items ++ filter (begins_line t) (range_with_len start (new_end + 1 - start)))
    (c.as_bytes.ensures.value ∙ is)
    ∙ ap (λ (m : ℕ). c.add_before.new.kept.items ++ filter (begins_line new) (range_with_len start m)) count) in
    c.in_ok-add_behind.ensures
    ∙ (ap (λ (l : List ℕ). c.add_starts.new.starts.items ++ map (moved_byte end new_end) (filter (λ k. nat_lt end k) l))
    (c.deref-2.ensures.value ∙ same)
    ∙ (ap (λ (l : List ℕ). l ++ map (moved_byte end new_end) (filter (λ k. nat_lt end k) (line_starts old)))
    (within_new ∙ ap (λ (l : List ℕ). l ++ filter (begins_line new) (range_with_len start (length given + 1))) before)
    ∙ (sym (changed_starts old given start end (moved_byte end new_end) ordered within at) ∙ sym (ap line_starts is))))
