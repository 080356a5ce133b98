use Rattle.std.proofs.Common.{◌∙◌, ◌&&◌, ap}
use Rattle.cedar_types.specs.Schemas.Contents.{schema_of}
use Rattle.cedar_conformance.specs.Answers.{lists_none}
use Rattle.cedar_conformance.specs.Entities.{store_of}
use Rattle.cedar_conformance.specs.EntityFaults.{all_there}
use Rattle.cedar_conformance.specs.StoreTests.{each_fits, are_there}
use Rattle.cedar_conformance.proofs.stores.find_in_store.Goals as goal

pub returns : goal.returns
returns c =
    let schema = schema_of c.args.schema.now in
    let store = store_of c.args.entities.now in
    record {
      none =
          c.in_ok-add_missing_actions.ensures.none
          ∙ ap (λ b. b && are_there schema.actions store)
          (c.in_ok-add_unfit.ensures.none ∙ ap (λ xs. lists_none xs && each_fits schema store) c.new-faults.ensures.items);
      there =
          c.in_ok-add_missing_actions.ensures.there
          (c.in_ok-add_unfit.ensures.there (ap (all_there schema store) c.new-faults.ensures.items));
    }
