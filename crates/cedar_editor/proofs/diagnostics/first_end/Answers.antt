use Rattle.std.proofs.Common.{◌≡◌, ◌∙◌, ℕ, false, sym, ap, arith}
use Rattle.std.specs.List.{position_or_len}
use Rattle.std.proofs.lemmas.List.Elements.{All-more}
use Rattle.cedar_editor.specs.Diagnostics.{ends_line}
use Rattle.cedar_editor.proofs.FirstLines.{first_at}
use Rattle.cedar_editor.proofs.diagnostics.first_end.Goals as goal

pub loop-end-preserved : goal.loop-end-preserved
loop-end-preserved c = (
  omega (arith, c.loop-end-test.true),
  All-more (λ (byte : ℕ). ends_line byte ≡ false) c.as_bytes-bytes.result.now c.loop-end.end _ c.loop-end-test.true
      c.loop-end.invariant.1 (sym c.ends_line.ensures ∙ c.if-not-ends_line.true),
)

pub returns-after-loop-end : goal.returns-after-loop-end
returns-after-loop-end c =
    first_at ends_line c.as_bytes-bytes.result.now c.loop-end.end c.loop-end.invariant.0 c.loop-end.invariant.1
    (λ below. absurd (omega (arith, below, c.loop-end-test.false)))
    ∙ ap (position_or_len ends_line) c.as_bytes-bytes.ensures.value

pub returns-else-not-ends_line : goal.returns-else-not-ends_line
returns-else-not-ends_line c =
    first_at ends_line c.as_bytes-bytes.result.now c.loop-end.end c.loop-end.invariant.0 c.loop-end.invariant.1
    (λ below. sym c.ends_line.ensures ∙ c.if-not-ends_line.false)
    ∙ ap (position_or_len ends_line) c.as_bytes-bytes.ensures.value
