use Rattle.std.proofs.Common.{◌≡◌, map, drop}
use Rattle.cedar_types.specs.Names.{text_of}
use Rattle.cedar_where.specs.Compiled.{text_literal}
use Rattle.cedar_where.proofs.Literals.{literals_in, after}
use Rattle.cedar_where.proofs.text_sets.text_literals.Given as goal

-- the texts so far, with those of the rest behind them, are all
abbrev pub invariant-loop-member : goal.invariant-loop-member
invariant-loop-member l =
    after (map text_of l.all.items) (literals_in text_literal (drop l.member-index l.members)) ≡ literals_in text_literal l.fn.members
