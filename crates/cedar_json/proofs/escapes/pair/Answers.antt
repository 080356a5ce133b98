use Rattle.std.proofs.Common.{◌+◌, ◌≡◌, refl, sym, subst}
use Rattle.std.specs.Char.{IsScalar}
use Rattle.cedar_json.specs.Texts.{EscapeStands, paired}
use Rattle.cedar_json.proofs.ReadEscapes.{pair_escape}
use Rattle.cedar_json.proofs.escapes.pair.Goals as goal

pub returns-in-Some : goal.returns-in-Some
returns-in-Some c =
    let bytes = c.args.bytes.now in
    let at = c.args.at in
    let high = c.args.high in
    let low = c.in_ok-low.low in
    let value : IsScalar (paired high low) × (c.in-Some.c ≡ paired high low) = c.in-Some.ensures.value in
    subst (λ x. EscapeStands bytes at (at + 12) x) (sym value.1)
    (pair_escape bytes at high low c.requires.backslash c.requires.u c.requires.unit c.requires.high
    c.in_ok-expect.ensures c.in_ok-expect-2.ensures c.in_ok-low.ensures (c.if-not-is_low.ensures refl))
