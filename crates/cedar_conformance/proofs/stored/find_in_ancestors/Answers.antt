use Rattle.std.proofs.Common.{◌≡◌, rules, false, List, subst}
use Rattle.std.specs.declared.alloc.Global.{Global}
use Rattle.std.specs.declared.rc.Rc.{Rc}
use Rattle.cedar_types.specs.Names.{type_of, uid_of, placed_uid}
use Rattle.cedar_types.specs.Schemas.Contents.{schema_of}
use Rattle.cedar_types.specs.declared.base.names.entities.EntityUID.{EntityUID}
use Rattle.cedar_types.proofs.Items.{next_item}
use Rattle.cedar_conformance.specs.Ids.{ids_of}
use Rattle.cedar_conformance.specs.StoreTests.{ancestor_fits}
use Rattle.cedar_conformance.proofs.Among.{IsAmong}
use Rattle.cedar_conformance.proofs.FoundFaults.{ancestor_there}
use Rattle.cedar_conformance.proofs.stored.find_in_ancestors.Goals as goal

pub returns-then-not-may_be_in-clause-there : goal.returns-then-not-may_be_in-clause-there
returns-then-not-may_be_in-clause-there c =
    let ts = (schema_of c.args.schema.now).types in
    let own = type_of c.args.id.now.entity_type in
    let shared = c.shared-item.result in
    let P : List (Rc EntityUID Global) → Type 0 = λ rs. IsAmong (ids_of rs) (ids_of c.args.ancestors.now) in
    let unfit : ancestor_fits ts own (uid_of shared.value) ≡ false = search rules in
    let copied : placed_uid c.in_ok-clone.field-0 ≡ placed_uid shared.value = search rules in
    ancestor_there ts own (ids_of c.args.ancestors.now) _ shared.value c.in_ok-clone.field-0 copied
    (subst P
    (next_item c.as_slice-ids.result.now c.loop-shared.shared-index shared c.loop-shared-test.true c.shared-item.is)
    c.loop-shared.invariant.among)
    unfit
