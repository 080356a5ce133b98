use Rattle.std.proofs.Common.{List, ◌++◌, length, drop, ℕ, refl, ap, arith}
use Rattle.cedar_c.specs.Buffers.{answered, too_small}
use Rattle.cedar_c.proofs.buffers.put.Goals as goal

pub returns-then-size-answer-clause-handed : goal.returns-then-size-answer-clause-handed
returns-then-size-answer-clause-handed c = too_small (omega (arith, c.if-size-answer.true)) refl

pub returns-clause-handed : goal.returns-clause-handed
returns-clause-handed c =
    let bytes : List ℕ = c.as_bytes-bytes.result.now in
    let old : List ℕ = c.args.answer.now in
    answered bytes c.as_bytes-bytes.ensures.utf8 refl (omega (arith, c.if-size-answer.false))
    (ap (λ (xs : List ℕ). xs ++ drop (length bytes) old) c.copy_from_slice.ensures.after)
