use Rattle.std.proofs.Common.{◌∙◌, ℕ, true, false, Vec, Global, ap, sym, arith}
use Rattle.std.proofs.lemmas.List.{append-nil}
use Rattle.cedar_editor.specs.Lines.{begins_line}
use Rattle.cedar_editor.proofs.Starts.{one_more_start}
use Rattle.cedar_editor.proofs.lines.add_starts.Goals as goal
use Rattle.cedar_editor.proofs.lines.add_starts.Goals.{then-begins_line+in_ok-push, else-begins_line}

pub loop-start-preserved : goal.loop-start-preserved
loop-start-preserved c = (
  omega (arith, c.loop-start.invariant.0),
  elim c.if-begins_line.branch [
    | then-begins_line+in_ok-push w ↦ one_more_start (begins_line c.args.bytes.now) c.args.from c.loop-start.start true
        c.args.starts.now.items c.loop-start.starts.items c.if-begins_line.starts.items c.loop-start.invariant.0
        (sym c.begins_line.ensures ∙ w.if-begins_line.true) c.loop-start.invariant.1
        (ap (λ (v : Vec ℕ Global). v.items) w.starts-is ∙ w.in_ok-push.ensures.items)
    | else-begins_line w ↦ one_more_start (begins_line c.args.bytes.now) c.args.from c.loop-start.start false
        c.args.starts.now.items c.loop-start.starts.items c.if-begins_line.starts.items c.loop-start.invariant.0
        (sym c.begins_line.ensures ∙ w.if-begins_line.false) c.loop-start.invariant.1
        (ap (λ (v : Vec ℕ Global). v.items) w.starts-is ∙ sym (append-nil c.loop-start.starts.items))
  ],
)
