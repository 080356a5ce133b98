use Rattle.std.proofs.Common.{◌≡◌, List, ◌++◌, take, map}
use Rattle.cedar_types.specs.Expressions.View.{written, fields_written}
use Rattle.cedar_types.proofs.base.expressions.copies.+copy.Given as goal

abbrev pub invariant-copy_list-loop-e : goal.invariant-copy_list-loop-e
invariant-copy_list-loop-e l = map written l.copies.items ≡ map written (take l.e-index l.e-items)

-- The fields copied so far and those that remain make up all fields
abbrev pub invariant-copy_fields-loop-key : goal.invariant-copy_fields-loop-key
invariant-copy_fields-loop-key l =
    (done : List _) × (l.fields.entries ≡ done ++ l.key-iterator) × (fields_written l.copies.entries ≡ fields_written done)
