use Rattle.cedar_types.specs.Schemas.References.{HasOwnSets}
use Rattle.cedar_types.proofs.base.schema.references.EntityReferences.new.Given as goal

abbrev pub invariant-loop-entity_type : goal.invariant-loop-entity_type
invariant-loop-entity_type l = HasOwnSets l.sets.entries

abbrev pub invariant-loop-action : goal.invariant-loop-action
invariant-loop-action l = HasOwnSets l.sets.entries
