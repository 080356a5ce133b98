use Rattle.std.specs.Ordering.{eq_by_cmp}
use Rattle.std.specs.Set.{IsUnion}
use Rattle.cedar_typechecker.proofs.survey.demands.insert_all.Given as goal

abbrev pub invariant-loop-x : goal.invariant-loop-x
invariant-loop-x g l = IsUnion (eq_by_cmp g.E.Ord.cmp) l.initial.set.keys l.yielded l.set.keys
