use Rattle.std.proofs.Common.{◌≡◌, ◌∙◌, ◌++◌, length, drop, sym, ap, append_assoc, arith}
use Rattle.cedar_frames.proofs.HeadParts.{behind_is, left_is}
use Rattle.cedar_frames.proofs.incoming.Incoming.pass_message.Goals as goal

pub returns-clause-exact : goal.returns-clause-exact
returns-clause-exact c =
    let first = c.split_at.result.0.now in
    let passed = c.split_at-2.result.0.now in (
      first ++ passed,
      cc (c.as_slice.ensures.value, c.split_at.ensures.by_index.0, c.split_at-2.ensures.by_index.0, c.in_ok-self.ensures, append_assoc first passed c.split_at-2.result.1.now),
    )

pub returns-clause-over : goal.returns-clause-over
returns-clause-over c = λ first rest h e.
    let behind : c.split_at.result.1.now ≡ rest =
    behind_is c.as_slice.result.now first rest c.split_at.result.0.now c.split_at.result.1.now (c.as_slice.ensures.value ∙ e)
    c.split_at.ensures.by_index.0 (h ∙ sym c.split_at.ensures.front_len) in
    let size : length c.split_at.result.1.now ≡ length rest = ap length behind in
    let left : c.split_at-2.result.1.now ≡ drop c.args.count rest =
    left_is rest c.split_at-2.result.0.now c.split_at-2.result.1.now c.args.count c.min-passed.result
    (sym behind ∙ c.split_at-2.ensures.by_index.0) c.split_at-2.ensures.front_len (omega arith) (omega arith) (λ w. omega arith)
    (λ w. omega arith) in
    (c.in_ok-self.ensures ∙ left, omega arith)
