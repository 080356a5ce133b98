use Rattle.std.proofs.Common.{◌≡◌, ◌++◌, map, drop}
use Rattle.cedar_types.specs.Names.{text_of}
use Rattle.cedar_where.proofs.tables.longer_path.Given as goal

-- the attributes so far, with the remaining ones behind them, are those before
abbrev pub invariant-loop-one : goal.invariant-loop-one
invariant-loop-one l = map text_of l.path.items ++ map text_of (drop l.one-index l.before) ≡ map text_of l.fn.before
