use Rattle.std.proofs.Common.{◌≡◌, ◌∙◌, ◌+◌, ◌-◌, ◌++◌, ◌<◌, ◌≤◌, sym, ap, subst, arith, string_bytes}
use Rattle.std.specs.Prelude.{slice_index, slice_range}
use Rattle.cedar_json.specs.Texts.{HasByte, ArePlain, AddsEscape, Unescapes}
use Rattle.cedar_json.proofs.Unescaped.{Completes, with_plain, with_escape, ended}
use Rattle.cedar_json.proofs.texts.text.Goals as goal
use Rattle.cedar_types.specs.Names.{text_of}

pub returns-in-Some-eq34-clause-says : goal.returns-in-Some-eq34-clause-says
returns-in-Some-eq34-clause-says c =
    let bytes = c.args.cursor.now.text.now in
    let start = c.args.cursor.now.at in
    let at = c.pieces.cursor.at in
    let mid = c.push_plain.new.cursor.at in
    let stop = c.pass-in-Some-eq34.new.self.at in
    let before = c.pieces.invariant in
    let plain = c.in_ok-push_plain.ensures in
    let done = string_bytes c.push_plain.new.plain in
    let text_is : c.push_plain.new.cursor.text.now ≡ bytes = plain.on.0 ∙ before.same in
    let run : ArePlain (slice_range bytes at mid) = subst (λ b. ArePlain (slice_range b at mid)) before.same plain.plain in
    let added : done ≡ string_bytes c.pieces.plain ++ slice_range bytes at mid =
    plain.added ∙ ap (λ b. string_bytes c.pieces.plain ++ slice_range b at mid) before.same in
    let one : Completes bytes (start + 1) mid done =
    with_plain bytes (start + 1) at mid (string_bytes c.pieces.plain) done before.on plain.on.1 before.says run added in
    let here : HasByte c.push_plain.new.cursor.text.now mid 34 =
    subst (λ b. HasByte c.push_plain.new.cursor.text.now mid b) c.in-Some-eq34.field-0-test c.in-Some-eq34.ensures.byte in
    let quote : HasByte bytes mid 34 = subst (λ b. HasByte b mid 34) text_is here in
    let behind : stop ≡ mid + 1 = c.pass-in-Some-eq34.ensures.passed (omega (arith, here.0)) in
    let back : mid ≡ stop - 1 = omega (arith, behind) in
    let said : text_of c.in_ok-from_string-in-Some-eq34.field-0 ≡ done = c.in_ok-from_string-in-Some-eq34.ensures.ok in
    let content : Unescapes (slice_range bytes (start + 1) mid) done = ended bytes (start + 1) mid done one in (
      omega (arith, behind, before.on, plain.on.1),
      c.requires,
      subst (λ n. HasByte bytes n 34) back quote,
      subst (λ n. Unescapes (slice_range bytes (start + 1) n) (text_of c.in_ok-from_string-in-Some-eq34.field-0)) back
          (subst (λ s. Unescapes (slice_range bytes (start + 1) mid) s) (sym said) content),
    )

pub pieces-preserved : goal.pieces-preserved
pieces-preserved c =
    let bytes = c.args.cursor.now.text.now in
    let low = c.args.cursor.now.at + 1 in
    let at = c.pieces.cursor.at in
    let mid = c.push_plain.new.cursor.at in
    let next = c.push_escape.new.cursor.at in
    let before = c.pieces.invariant in
    let plain = c.in_ok-push_plain.ensures in
    let escaped = c.in_ok-push_escape-in-Some-eq92.ensures in
    let done = string_bytes c.push_plain.new.plain in
    let more = string_bytes c.push_escape.new.plain in
    let text_is : c.push_plain.new.cursor.text.now ≡ bytes = plain.on.0 ∙ before.same in
    let run : ArePlain (slice_range bytes at mid) = subst (λ b. ArePlain (slice_range b at mid)) before.same plain.plain in
    let added : done ≡ string_bytes c.pieces.plain ++ slice_range bytes at mid =
    plain.added ∙ ap (λ b. string_bytes c.pieces.plain ++ slice_range b at mid) before.same in
    let one : Completes bytes low mid done =
    with_plain bytes low at mid (string_bytes c.pieces.plain) done before.on plain.on.1 before.says run added in
    let adds : AddsEscape (slice_range bytes mid next) done more = subst (λ b. AddsEscape (slice_range b mid next) done more) text_is escaped.added in
    let within : low ≤ mid = omega (arith, before.on, plain.on.1) in
    record {
      same = escaped.on.0 ∙ text_is;
      start = before.start;
      on = omega (arith, within, escaped.within);
      ascii = subst (λ b. slice_index b (next - 1) < 128) text_is escaped.ascii;
      says = with_escape bytes low mid next done more within escaped.on.1 one adds;
    }
