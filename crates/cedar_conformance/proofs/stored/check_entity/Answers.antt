use Rattle.std.proofs.Common.{◌∙◌}
use Rattle.cedar_types.specs.Names.{uid_of}
use Rattle.cedar_types.specs.Schemas.Contents.{schema_of}
use Rattle.cedar_conformance.specs.Entities.{entity_of}
use Rattle.cedar_conformance.proofs.Outcomes.{decided, told}
use Rattle.cedar_conformance.proofs.StoreDecisions.{declaration_decides}
use Rattle.cedar_conformance.proofs.stored.check_entity.Goals as goal

pub returns : goal.returns
returns c = record {
  exact =
      decided _ _ (c.answer.ensures.ok ∙ c.in_ok-found.ensures.none)
      (declaration_decides (schema_of c.args.schema.now) (uid_of c.args.id.now) _ (entity_of c.args.entity.now));
  there = told _ c.answer.result _ c.answer.ensures.fault c.in_ok-found.ensures.there;
}
