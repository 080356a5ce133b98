use Rattle.std.proofs.Common.{◌≡◌, ◌++◌, map}
use Rattle.cedar_types.specs.Names.{text_of}
use Rattle.cedar_types.specs.Types.{attributes_of, entries_of}
use Rattle.cedar_where.specs.Tables.{columns, holder_of, left_out, texts_of}
use Rattle.cedar_where.proofs.tables.+columns.Given as goal

-- the columns so far, with those of the remaining attributes behind them, are all; and so are the paths without a column
abbrev pub invariant-add_columns-loop-name : goal.invariant-add_columns-loop-name
invariant-add_columns-loop-name l = record {
  held : map holder_of l.all.columns.items ++ columns (entries_of l.name-iterator) (map text_of l.before) l.is_required
      ≡ map holder_of l.fn.all.columns.items ++ columns (attributes_of l.fn.attributes) (map text_of l.fn.before) l.fn.is_required;
  left : map texts_of l.all.left_out.items ++ left_out (entries_of l.name-iterator) (map text_of l.before)
      ≡ map texts_of l.fn.all.left_out.items ++ left_out (attributes_of l.fn.attributes) (map text_of l.fn.before);
}
