use Rattle.std.proofs.Common.{◌++◌, ap, sym, map, ◌∙◌}
use Rattle.cedar_types.specs.Names.{text_of}
use Rattle.cedar_types.specs.Types.{entries_of}
use Rattle.cedar_types.proofs.Attributes.{attributes_are}
use Rattle.cedar_where.specs.Tables.{columns, holder_of, left_out, texts_of}
use Rattle.cedar_where.proofs.tables.+columns.Goals as goal

pub add_columns-loop-name-init : goal.add_columns-loop-name-init
add_columns-loop-name-init t c =
    let all =
    ap entries_of (c.into_iter-name-iterator.ensures.into_iter_gives ∙ c.iter-name-items.ensures.rest ∙ ap (λ m. m.entries) c.deref.ensures)
    ∙ sym (attributes_are c.args.attributes.now) in
    record {
      held = ap (λ es. map holder_of c.args.all.now.columns.items ++ columns es (map text_of c.args.before.now) c.args.is_required) all;
      left = ap (λ es. map texts_of c.args.all.now.left_out.items ++ left_out es (map text_of c.args.before.now)) all;
    }
