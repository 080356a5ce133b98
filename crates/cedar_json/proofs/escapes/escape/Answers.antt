use Rattle.cedar_json.proofs.ReadEscapes.{letter_escape}
use Rattle.cedar_json.proofs.escapes.escape.Goals as goal

pub returns-in_ok-meant-in_default : goal.returns-in_ok-meant-in_default
returns-in_ok-meant-in_default c =
    letter_escape c.args.bytes.now c.args.at c.in_ok-letter.letter c.in_ok-meant-in_default.field-0
    c.requires c.in_ok-letter.ensures c.in_ok-meant-in_default.ensures.letter c.in_ok-meant-in_default.ensures.ascii
