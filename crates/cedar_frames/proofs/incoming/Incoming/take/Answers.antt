use Rattle.std.proofs.Common.{◌≡◌, ◌∙◌, Some, None, length, sym, ap, append_assoc, arith}
use Rattle.cedar_frames.specs.declared.heads.Head.{Head}
use Rattle.cedar_frames.specs.Frames.{head, head_said}
use Rattle.cedar_frames.proofs.HeadParts.{found_of}
use Rattle.cedar_frames.proofs.incoming.Incoming.take.Goals as goal

pub returns-in_default-clause-framed : goal.returns-in_default-clause-framed
returns-in_default-clause-framed c = λ message rest h e.
    let none = found_of c.as_slice.result.now message rest None c.in_default.ensures.usual h (c.as_slice.ensures.value ∙ e) in
    absurd (cc)

pub returns-in_default-length-clause-framed : goal.returns-in_default-length-clause-framed
returns-in_default-length-clause-framed c = λ message rest h e.
    let some : Some c.in-Some.head ≡ Some (head_said (length message)) =
    found_of c.as_slice.result.now message rest (Some c.in-Some.head) c.in-Some.ensures.usual h (c.as_slice.ensures.value ∙ e) in
    let found : c.in-Some.head ≡ head_said (length message) = cc in
    let said : c.in-Some.head.length ≡ Some (length message) = ap (λ (it : Head). it.length) found in
    absurd (cc (c.in_default-length.is))

pub returns-then-count-gt-MAX_MESSAGE-clause-framed : goal.returns-then-count-gt-MAX_MESSAGE-clause-framed
returns-then-count-gt-MAX_MESSAGE-clause-framed c = λ message rest h e.
    let some : Some c.in-Some.head ≡ Some (head_said (length message)) =
    found_of c.as_slice.result.now message rest (Some c.in-Some.head) c.in-Some.ensures.usual h (c.as_slice.ensures.value ∙ e) in
    let found : c.in-Some.head ≡ head_said (length message) = cc in
    let said : c.in-Some.head.length ≡ Some (length message) = ap (λ (it : Head). it.length) found in
    let count : c.in-Some-length.count ≡ length message = cc (c.in-Some-length.is) in
    absurd (omega (arith, c.if-count-gt-MAX_MESSAGE.true))

pub returns-clause-framed : goal.returns-clause-framed
returns-clause-framed c = λ message rest h e.
    let some : Some c.in-Some.head ≡ Some (head_said (length message)) =
    found_of c.as_slice.result.now message rest (Some c.in-Some.head) c.in-Some.ensures.usual h (c.as_slice.ensures.value ∙ e) in
    let found : c.in-Some.head ≡ head_said (length message) = cc in
    let said : c.in-Some.head.length ≡ Some (length message) = ap (λ (it : Head). it.length) found in
    let count : c.in-Some-length.count ≡ length message = cc (c.in-Some-length.is) in
    let size : c.in-Some.head.size ≡ length (head (length message)) = ap (λ (it : Head). it.size) found in
    c.in_ok-taken-3.ensures.whole (head (length message)) message rest (sym size) (sym count)
    (e ∙ append_assoc (head (length message)) message rest)

pub returns-in_default-clause-over : goal.returns-in_default-clause-over
returns-in_default-clause-over c = λ n rest h long e.
    let none = c.in_default.ensures.usual n rest h (c.as_slice.ensures.value ∙ e) in
    absurd (cc)

pub returns-in_default-length-clause-over : goal.returns-in_default-length-clause-over
returns-in_default-length-clause-over c = λ n rest h long e.
    let some : Some c.in-Some.head ≡ Some (head_said n) = c.in-Some.ensures.usual n rest h (c.as_slice.ensures.value ∙ e) in
    let found : c.in-Some.head ≡ head_said n = cc in
    let said : c.in-Some.head.length ≡ Some n = ap (λ (it : Head). it.length) found in
    absurd (cc (c.in_default-length.is))

pub returns-then-count-gt-MAX_MESSAGE-clause-over : goal.returns-then-count-gt-MAX_MESSAGE-clause-over
returns-then-count-gt-MAX_MESSAGE-clause-over c = λ n rest h long e.
    let some : Some c.in-Some.head ≡ Some (head_said n) = c.in-Some.ensures.usual n rest h (c.as_slice.ensures.value ∙ e) in
    let found : c.in-Some.head ≡ head_said n = cc in
    let said : c.in-Some.head.length ≡ Some n = ap (λ (it : Head). it.length) found in
    let count : c.in-Some-length.count ≡ n = cc (c.in-Some-length.is) in
    let size : c.in-Some.head.size ≡ length (head n) = ap (λ (it : Head). it.size) found in
    rw count at (c.in_ok-taken-2.ensures.over (head n) rest (sym size) e)

pub returns-clause-over : goal.returns-clause-over
returns-clause-over c = λ n rest h long e.
    let some : Some c.in-Some.head ≡ Some (head_said n) = c.in-Some.ensures.usual n rest h (c.as_slice.ensures.value ∙ e) in
    let found : c.in-Some.head ≡ head_said n = cc in
    let said : c.in-Some.head.length ≡ Some n = ap (λ (it : Head). it.length) found in
    let count : c.in-Some-length.count ≡ n = cc (c.in-Some-length.is) in
    absurd (omega (arith, c.if-count-gt-MAX_MESSAGE.false))
