use Rattle.std.proofs.Common.{sym, ◌∙◌, ◌<◌, length, None, true, false, arith}
use Rattle.std.specs.List.{list_any}
use Rattle.std.proofs.lemmas.List.{at_drop_all}
use Rattle.cedar_types.specs.Extensions.Functions.{function_of, has_bad_return}
use Rattle.cedar_types.proofs.Names.Paths.{any_mapped}
use Rattle.cedar_types.proofs.Expressions.SortedTables.{any_turn}
use Rattle.cedar_types.proofs.base.expressions.extensions.faults.has_bad_return.Goals as goal

pub returns-then-is_return_bad : goal.returns-then-is_return_bad
returns-then-is_return_bad g c = λ meaning.
    let fs = c.args.functions.now in
    let i = c.loop-function.function-index in
    let here : i < length fs = omega arith in
    sym (any_turn (λ f. has_bad_return (function_of (λ check args. None) f)) fs i c.function-item.result true here
    c.function-item.is (sym (c.is_return_bad.ensures (λ check args. None)) ∙ c.if-is_return_bad.true))
    ∙ c.loop-function.invariant
    ∙ any_mapped (function_of meaning) has_bad_return fs

pub loop-function-preserved : goal.loop-function-preserved
loop-function-preserved g c =
    let fs = c.args.functions.now in
    let i = c.loop-function.function-index in
    let here : i < length fs = omega arith in
    sym (any_turn (λ f. has_bad_return (function_of (λ check args. None) f)) fs i c.function-item.result false here
    c.function-item.is (sym (c.is_return_bad.ensures (λ check args. None)) ∙ c.if-is_return_bad.false))
    ∙ c.loop-function.invariant

pub returns : goal.returns
returns g c = λ meaning.
    let fs = c.args.functions.now in
    sym (at_drop_all (list_any (λ f. has_bad_return (function_of (λ check args. None) f))) fs c.loop-function.function-index (omega arith))
    ∙ c.loop-function.invariant
    ∙ any_mapped (function_of meaning) has_bad_return fs
