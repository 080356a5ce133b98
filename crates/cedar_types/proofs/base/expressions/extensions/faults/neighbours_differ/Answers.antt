use Rattle.std.proofs.Common.{◌≡◌, ◌+◌, ◌-◌, sym, ap, ◌∙◌, true, not, get_or, arith}
use Rattle.std.proofs.lemmas.List.Sorted.{all_adjacent_more}
use Rattle.cedar_types.specs.Names.{path_of, path_eq}
use Rattle.cedar_types.proofs.Expressions.SortedTables.{compared}
use Rattle.cedar_types.proofs.base.expressions.extensions.faults.neighbours_differ.Goals as goal

pub returns-then-eq : goal.returns-then-eq
returns-then-eq g c =
    let fs = c.args.functions.now in
    let before = c.loop-later.later - 1 in
    let next : before + 1 ≡ c.loop-later.later = omega arith in (
      before,
      omega arith,
      λ d. ap not (
          ap (λ j. path_eq (path_of (get_or fs before d).name) (path_of (get_or fs j d).name)) next
          ∙ sym (compared fs before c.loop-later.later c.index-functions-later.result
          c.index-functions-later-in-loop-later.result d (omega arith) (omega arith))
          ∙ sym c.eq.ensures
          ∙ c.if-eq.true),
    )

pub loop-later-preserved : goal.loop-later-preserved
loop-later-preserved g c =
    let fs = c.args.functions.now in
    let before = c.loop-later.later - 1 in
    all_adjacent_more fs (λ f h. not (path_eq (path_of f.name) (path_of h.name)) ≡ true) c.loop-later.later
    (omega arith) c.loop-later.invariant (λ d. ap not (
    sym (compared fs before c.loop-later.later c.index-functions-later.result
    c.index-functions-later-in-loop-later.result d (omega arith) (omega arith))
    ∙ sym c.eq.ensures
    ∙ c.if-eq.false))
