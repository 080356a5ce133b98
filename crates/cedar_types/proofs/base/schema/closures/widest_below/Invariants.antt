use Rattle.std.proofs.Common.{◌≡◌, true, IfSome, map, Some}
use Rattle.cedar_types.specs.Schemas.Closures.{has_all, IsBelow}
use Rattle.cedar_types.proofs.base.schema.closures.widest_below.Given as goal

-- The declaration found is below, and the remaining names are among the descendants
abbrev pub invariant-loop-name : goal.invariant-loop-name
invariant-loop-name g l = record {
  found :
      IfSome l.widest (λ w. IsBelow g.D.Declared.same g.D.Declared.called (λ x. g.D.Declared.below (Some x))
      (map g.D.Declared.plain l.table.declared.items) (g.D.Declared.below (Some (g.D.Declared.plain l.above)))
      (g.D.Declared.plain w.now));
  left :
      has_all g.D.Declared.same (g.D.Declared.below (Some (g.D.Declared.plain l.above)))
      (map g.D.Declared.key l.name-iterator) ≡ true;
}
