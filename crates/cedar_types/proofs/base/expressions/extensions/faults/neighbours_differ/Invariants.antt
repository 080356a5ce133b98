use Rattle.std.proofs.Common.{◌≡◌, true, not}
use Rattle.std.specs.List.{AllAdjacentBelow}
use Rattle.cedar_types.specs.Names.{path_of, path_eq}
use Rattle.cedar_types.proofs.base.expressions.extensions.faults.neighbours_differ.Given as goal

-- Each function before `later` differs from the next
abbrev pub invariant-loop-later : goal.invariant-loop-later
invariant-loop-later g l = AllAdjacentBelow (λ f h. not (path_eq (path_of f.name) (path_of h.name)) ≡ true) l.functions l.later
