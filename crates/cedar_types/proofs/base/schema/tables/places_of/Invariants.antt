use Rattle.std.proofs.Common.{◌≡◌, false, take, map}
use Rattle.cedar_types.specs.Schemas.Tables.Places.{IsIndex, repeats_name}
use Rattle.cedar_types.proofs.base.schema.tables.places_of.Given as goal

-- The declarations so far have their places, and no name repeats among them
abbrev pub invariant-loop-place : goal.invariant-loop-place
invariant-loop-place g l = record {
  placed :
      IsIndex g.D.Declared.same g.D.Declared.key (λ d. g.D.Declared.called (g.D.Declared.plain d)) l.places.entries
      (take l.place l.declared);
  apart : repeats_name g.D.Declared.same g.D.Declared.called (map g.D.Declared.plain (take l.place l.declared)) ≡ false;
}
