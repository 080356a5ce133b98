use Rattle.std.proofs.Common.{arith}
use Rattle.cedar_editor.proofs.MadeEdits.{change_of}
use Rattle.cedar_editor.proofs.edits.difference.Goals as goal

pub returns : goal.returns
returns c =
    change_of c.args.old.now c.args.new.now c.shared_front-start.result c.shared_back-behind.result
    c.shared_front-start.ensures.in_one c.shared_front-start.ensures.in_two
    (omega (arith, c.shared_back-behind.ensures.few, c.min.ensures)) c.shared_front-start.ensures.shared
    c.shared_back-behind.ensures.shared
