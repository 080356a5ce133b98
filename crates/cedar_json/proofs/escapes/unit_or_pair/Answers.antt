use Rattle.std.proofs.Common.{◌+◌, ◌≡◌, sym, subst}
use Rattle.std.specs.Char.{IsScalar}
use Rattle.cedar_json.specs.Texts.{EscapeStands}
use Rattle.cedar_json.proofs.ReadEscapes.{unit_escape}
use Rattle.cedar_json.proofs.escapes.unit_or_pair.Goals as goal

pub returns-in-Some : goal.returns-in-Some
returns-in-Some c =
    let bytes = c.args.bytes.now in
    let at = c.args.at in
    let first = c.in_ok-first.first in
    let value : IsScalar first × (c.in-Some.c ≡ first) = c.in-Some.ensures.value in
    subst (λ x. EscapeStands bytes at (at + 6) x) (sym value.1)
    (unit_escape bytes at first c.requires.backslash c.requires.u c.in_ok-first.ensures value.0)
