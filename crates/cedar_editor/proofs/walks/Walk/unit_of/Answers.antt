use Rattle.std.proofs.Common.{◌≡◌, ◌∙◌, ℕ, ◌+◌, ◌-◌, ◌≤◌, List, length, drop, slice_range, ap, arith, length-take, length-drop}
use Rattle.cedar_editor.specs.Lines.{start_in}
use Rattle.cedar_editor.specs.Units.{units}
use Rattle.cedar_editor.proofs.Units.{units_most, units_parts}
use Rattle.cedar_editor.proofs.walks.Walk.unit_of.Goals as goal

pub returns-then-self-byte : goal.returns-then-self-byte
returns-then-self-byte c =
    let text : List ℕ = c.args.self.now.text.now in
    let start : ℕ = start_in c.args.self.now.lines.now.starts.items c.args.self.now.last.line in
    let more : c.units_of-more.result ≡ units (slice_range text c.args.self.now.byte c.args.byte) =
    c.units_of-more.ensures
    ∙ ap (λ (bs : List ℕ). units (slice_range bs c.args.self.now.byte c.args.byte)) c.as_bytes-bytes.ensures.value in
    let both : units (slice_range text start c.args.byte)
    ≡ units (slice_range text start c.args.self.now.byte) + units (slice_range text c.args.self.now.byte c.args.byte) =
    units_parts text start c.args.self.now.byte c.args.byte c.args.self.now.right.begun (omega (arith, c.if-self-byte.true)) in
    let long : length (slice_range text start c.args.byte) ≤ length text =
    omega (arith, length-take (c.args.byte - start) (drop start text), length-drop start text) in
    omega (
      arith,
      c.saturating_add.ensures,
      more,
      both,
      c.args.self.now.right.unit,
      long,
      units_most (slice_range text start c.args.byte),
      c.as_bytes-bytes.type_inv,
      c.as_bytes-bytes.ensures.len,
    )

pub returns-else-self-byte : goal.returns-else-self-byte
returns-else-self-byte c =
    let text : List ℕ = c.args.self.now.text.now in
    let start : ℕ = start_in c.args.self.now.lines.now.starts.items c.args.self.now.last.line in
    let fewer : c.units_of-fewer.result ≡ units (slice_range text c.args.byte c.args.self.now.byte) =
    c.units_of-fewer.ensures
    ∙ ap (λ (bs : List ℕ). units (slice_range bs c.args.byte c.args.self.now.byte)) c.as_bytes-bytes.ensures.value in
    let both : units (slice_range text start c.args.self.now.byte)
    ≡ units (slice_range text start c.args.byte) + units (slice_range text c.args.byte c.args.self.now.byte) =
    units_parts text start c.args.byte c.args.self.now.byte c.requires.begun (omega (arith, c.if-self-byte.false)) in
    omega (arith, c.saturating_sub.ensures, fewer, both, c.args.self.now.right.unit)
