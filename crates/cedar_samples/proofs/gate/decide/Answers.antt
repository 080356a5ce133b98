use Rattle.std.proofs.Common.{◌≡◌, List, [], ◌∷◌, ◌∙◌, length, refl, ap, sym, append-nil, arith}
use Rattle.std.specs.List.{filter}
use Rattle.std.specs.Vec.Iter.{into_iter_items}
use Rattle.cedar_samples.specs.Decisions.{is_accepted, is_refused}
use Rattle.cedar_samples.proofs.gate.decide.Goals as goal

nothing_left : {X : Type 0} (xs : List X) → length xs ≡ 0 → xs ≡ []
nothing_left [] h = refl
nothing_left (x ∷ xs) h = absurd (omega arith)

pub returns : goal.returns
returns g c =
    let at = c.loop-report in
    let none = c.in-None.ensures.steps in
    let empty : into_iter_items at.report-iterator ≡ [] = nothing_left _ (sym at.invariant.3 ∙ none.0) in
    let all =
    sym (append-nil at.yielded)
    ∙ rw empty at at.invariant.2
    ∙ c.into_iter-report-iterator.ensures.into_iter_gives.0 in
    record {
      reports = c.in_ok-reports.reports.items;
      each = c.in_ok-reports.ensures.each;
      right = c.in_ok-reports.ensures.right;
      exact = c.in_ok-reports.ensures.exact;
      admitted = at.invariant.0 ∙ ap (filter is_accepted) all;
      refused = at.invariant.1 ∙ ap (filter is_refused) all;
    }
