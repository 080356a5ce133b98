use Rattle.std.proofs.Common.{◌≡◌, map, drop}
use Rattle.cedar_types.specs.Names.{uid_of}
use Rattle.cedar_where.specs.Compiled.{entity_literal}
use Rattle.cedar_where.proofs.Literals.{literals_in, after}
use Rattle.cedar_where.proofs.membership.entity_literals.Given as goal

-- the entities so far, with those of the rest behind them, are all
abbrev pub invariant-loop-member : goal.invariant-loop-member
invariant-loop-member l =
    after (map uid_of l.all.items) (literals_in entity_literal (drop l.member-index l.members)) ≡ literals_in entity_literal l.fn.members
