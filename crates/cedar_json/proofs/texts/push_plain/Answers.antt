use Rattle.std.proofs.Common.{◌≡◌, ℕ, ◌+◌, ◌-◌, ◌<◌, ◌≤◌, length, subst, arith}
use Rattle.std.specs.Prelude.{slice_index}
use Rattle.std.specs.Str.{IsCharBoundary, IsUtf8}
use Rattle.std.proofs.lemmas.Str.{IsCharBoundary-after_ascii}
use Rattle.cedar_json.specs.Texts.{IsPlain}
use Rattle.cedar_json.proofs.Unescaped.{all_plain}
use Rattle.cedar_json.proofs.texts.push_plain.Goals as goal

pub range-requires-clause-start_boundary : goal.range-requires-clause-start_boundary
range-requires-clause-start_boundary c = λ h.
    let bytes = c.args.cursor.now.text.now in
    let at = c.args.cursor.now.at in
    let utf8 : IsUtf8 bytes = subst IsUtf8 c.as_bytes.ensures.value c.as_bytes.ensures.utf8 in
    let before : at - 1 < length bytes = omega arith in
    let back : (at - 1) + 1 ≡ at = omega arith in
    subst (λ n. IsCharBoundary bytes n) back (IsCharBoundary-after_ascii bytes (at - 1) utf8 before c.requires.ascii)

pub returns-clause-plain : goal.returns-clause-plain
returns-clause-plain c =
    let bytes = c.args.cursor.now.text.now in
    let at = c.args.cursor.now.at in
    let stop = c.behind_plain-end.result in
    let within : (at ≤ stop) × (stop ≤ length bytes) = subst (λ b. (at ≤ stop) × (stop ≤ length b)) c.as_bytes.ensures.value c.behind_plain-end.ensures.within in
    let plain : (i : ℕ) → at ≤ i → i < stop → IsPlain (slice_index bytes i) =
    subst (λ b. (i : ℕ) → at ≤ i → i < stop → IsPlain (slice_index b i)) c.as_bytes.ensures.value c.behind_plain-end.ensures.plain in
    all_plain (stop - at) bytes at stop (omega arith) within.1 plain
