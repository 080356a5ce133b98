use Rattle.std.proofs.Common.{◌≡◌, map}
use Rattle.std.specs.List.{list_all}
use Rattle.cedar_types.specs.Schemas.Tables.Places.{declares_name}
use Rattle.cedar_types.proofs.base.schema.tables.Table.all_declared.Given as goal

-- The remaining names decide the answer
abbrev pub invariant-loop-name : goal.invariant-loop-name
invariant-loop-name g l =
    list_all (declares_name g.D.Declared.same g.D.Declared.called (map g.D.Declared.plain l.self.declared.items))
    (map g.D.Declared.key l.name-iterator)
    ≡ list_all (declares_name g.D.Declared.same g.D.Declared.called (map g.D.Declared.plain l.fn.self.declared.items))
    (map g.D.Declared.key l.fn.names.keys)
