use Rattle.std.proofs.Common.{◌≡◌, ◌+◌, ◌-◌, ◌*◌, drop, map, List, ◌++◌}
use Rattle.cedar_types.specs.Types.{ty_of}
use Rattle.cedar_types.specs.Expressions.View.{fields_written}
use Rattle.cedar_typing.specs.Capabilities.Priors.{known_in}
use Rattle.cedar_typing.specs.Views.{findings, operands_of, keys_in, trees_in}
use Rattle.cedar_typing.specs.Infer.{infer_fields}
use Rattle.cedar_typing.specs.Views.Settings.{setting_at}
use Rattle.cedar_typing.proofs.Rules.OperandLists.{resumed, all_inferred}
use Rattle.cedar_typing.proofs.Rules.FieldsInOrder.{finish}
use Rattle.cedar_typing.proofs.typecheck.single_env.SingleEnvTypechecker.+typing.Given as goal

abbrev pub decreases-typecheck : goal.decreases-typecheck
decreases-typecheck g l = 5 * (402 - l.depth)

abbrev pub decreases-type_short_circuit : goal.decreases-type_short_circuit
decreases-type_short_circuit g l = 5 * (401 - l.depth) + 2

abbrev pub decreases-type_one_operand : goal.decreases-type_one_operand
decreases-type_one_operand g l = 5 * (401 - l.depth) + 4

abbrev pub decreases-type_base : goal.decreases-type_base
decreases-type_base g l = 5 * (402 - l.depth) + 2

abbrev pub decreases-type_if : goal.decreases-type_if
decreases-type_if g l = 5 * (401 - l.depth) + 2

abbrev pub decreases-type_part : goal.decreases-type_part
decreases-type_part g l = 5 * (402 - l.depth) + 1

abbrev pub decreases-type_two_operands : goal.decreases-type_two_operands
decreases-type_two_operands g l = 5 * (401 - l.depth) + 2

abbrev pub decreases-type_operands : goal.decreases-type_operands
decreases-type_operands g l = 5 * (401 - l.depth) + 1

abbrev pub decreases-type_call : goal.decreases-type_call
decreases-type_call g l = 5 * (401 - l.depth) + 2

abbrev pub decreases-type_set : goal.decreases-type_set
decreases-type_set g l = 5 * (401 - l.depth) + 2

-- the result of the operands so far, and of those that are left, is that of all
abbrev pub invariant-type_operands-loop-operand : goal.invariant-type_operands-loop-operand
invariant-type_operands-loop-operand g l =
    let s = setting_at g.C.ArgumentCheck.refusal l.self in
    resumed (operands_of l.all)
    (all_inferred s l.goes_on (map ty_of l.left) (known_in l.prior) (l.depth + 1)
    (drop l.operand-index l.operand-items) (findings l.errors.items))
    ≡ all_inferred s l.goes_on (map ty_of l.fn.types) (known_in l.fn.prior) (l.fn.depth + 1) l.fn.operands.items
    (findings l.fn.errors.items)

abbrev pub decreases-type_record : goal.decreases-type_record
decreases-type_record g l = 5 * (401 - l.depth) + 2

abbrev pub decreases-type_fields : goal.decreases-type_fields
decreases-type_fields g l = 5 * (401 - l.depth) + 1

-- the result of the fields so far, and of those to come, is that of all
abbrev pub invariant-type_fields-loop-key : goal.invariant-type_fields-loop-key
invariant-type_fields-loop-key g l =
    let s = setting_at g.C.ArgumentCheck.refusal l.self in
    (done : List _)
    × (l.fields.entries ≡ done ++ l.key-iterator)
    × (keys_in l.typed.entries ≡ keys_in done)
    × (finish l.succeeded (trees_in l.typed.entries)
    (infer_fields s (fields_written l.key-iterator) (known_in l.prior) (l.depth + 1) (findings l.errors.items))
    ≡ infer_fields s (fields_written l.fields.entries) (known_in l.prior) (l.depth + 1) (findings l.fn.errors.items))
