use Rattle.std.proofs.Common.{◌≡◌, ◌∙◌, ◌+◌, ◌-◌, ◌∷◌, ◌++◌, length, ap, refl, arith, length-append}
use Rattle.std.specs.Fmt.{decimal}
use Rattle.cedar_frames.specs.Frames.{blank, head}
use Rattle.cedar_frames.proofs.HeadParts.{digits_alone, count_is, drop_digits, head_found, head_parts, take_digits}
use Rattle.cedar_frames.proofs.heads.usual_head.Goals as goal

pub returns-in_err-rest-clause-usual : goal.returns-in_err-rest-clause-usual
returns-in_err-rest-clause-usual c = λ n rest h e.
    absurd (c.in_err-rest.ensures.found (decimal n ++ (blank ++ rest)) (e ∙ head_parts n rest))

pub returns-in_err-length-clause-usual : goal.returns-in_err-length-clause-usual
returns-in_err-length-clause-usual c = λ n rest h e.
    let bs = c.in_ok-rest.rest.now in
    let found : bs ≡ decimal n ++ (blank ++ rest) = c.in_ok-rest.ensures.found (decimal n ++ (blank ++ rest)) (e ∙ head_parts n rest) in
    let counted = c.count_digits-count in
    let count : counted.result ≡ length (decimal n) =
    count_is bs (decimal n) (10 ∷ 13 ∷ 10 ∷ rest) 13 counted.result found (digits_alone n h) refl counted.ensures.within
    counted.ensures.digits counted.ensures.end in
    let none = c.in_err-length.ensures n h (take_digits bs (decimal n) (blank ++ rest) counted.result found count) in
    cc

pub returns-in_err-message-clause-usual : goal.returns-in_err-message-clause-usual
returns-in_err-message-clause-usual c = λ n rest h e.
    let bs = c.in_ok-rest.rest.now in
    let found : bs ≡ decimal n ++ (blank ++ rest) = c.in_ok-rest.ensures.found (decimal n ++ (blank ++ rest)) (e ∙ head_parts n rest) in
    let counted = c.count_digits-count in
    let count : counted.result ≡ length (decimal n) =
    count_is bs (decimal n) (10 ∷ 13 ∷ 10 ∷ rest) 13 counted.result found (digits_alone n h) refl counted.ensures.within
    counted.ensures.digits counted.ensures.end in
    absurd (c.in_err-message.ensures.found rest (drop_digits bs (decimal n) (blank ++ rest) counted.result found count))

pub returns-clause-usual : goal.returns-clause-usual
returns-clause-usual c = λ n rest h e.
    let bs = c.in_ok-rest.rest.now in
    let found : bs ≡ decimal n ++ (blank ++ rest) = c.in_ok-rest.ensures.found (decimal n ++ (blank ++ rest)) (e ∙ head_parts n rest) in
    let counted = c.count_digits-count in
    let count : counted.result ≡ length (decimal n) =
    count_is bs (decimal n) (10 ∷ 13 ∷ 10 ∷ rest) 13 counted.result found (digits_alone n h) refl counted.ensures.within
    counted.ensures.digits counted.ensures.end in
    let said : c.in_ok-length.length ≡ n =
    let some = c.in_ok-length.ensures n h (take_digits bs (decimal n) (blank ++ rest) counted.result found count) in cc in
    let behind : c.in_ok-message.message.now ≡ rest =
    c.in_ok-message.ensures.found rest (drop_digits bs (decimal n) (blank ++ rest) counted.result found count) in
    let whole : length c.args.bytes.now ≡ length (head n) + length rest = ap length e ∙ length-append (head n) rest in
    let left : length c.in_ok-message.message.now ≡ length rest = ap length behind in
    head_found (length c.args.bytes.now - length c.in_ok-message.message.now) c.in_ok-length.length n (omega arith) said
