use Rattle.std.proofs.Common.{◌≡◌, rules, false, List, subst}
use Rattle.std.specs.declared.alloc.Global.{Global}
use Rattle.std.specs.declared.rc.Rc.{Rc}
use Rattle.cedar_types.specs.Names.{uid_of, placed_uid}
use Rattle.cedar_types.specs.Schemas.Contents.{schema_of}
use Rattle.cedar_types.specs.Values.Stores.{declares_ancestor}
use Rattle.cedar_types.specs.declared.base.names.entities.EntityUID.{EntityUID}
use Rattle.cedar_types.proofs.Items.{next_item}
use Rattle.cedar_conformance.specs.Entities.{entity_of}
use Rattle.cedar_conformance.specs.Ids.{ids_of}
use Rattle.cedar_conformance.proofs.Among.{IsAmong}
use Rattle.cedar_conformance.proofs.FoundFaults.{undeclared_there}
use Rattle.cedar_conformance.proofs.actions.find_undeclared_ancestor.Goals as goal

pub returns-then-not-is_declared_ancestor-clause-there :
    goal.returns-then-not-is_declared_ancestor-clause-there
returns-then-not-is_declared_ancestor-clause-there c =
    let acts = (schema_of c.args.schema.now).actions in
    let own = uid_of c.args.id.now in
    let shared = c.shared-item.result in
    let P : List (Rc EntityUID Global) → Type 0 = λ rs. IsAmong (ids_of rs) (entity_of c.args.entity.now).ancestors in
    let undeclared : declares_ancestor acts own (uid_of shared.value) ≡ false = search rules in
    let copied : placed_uid c.in_ok-clone.field-0 ≡ placed_uid shared.value = search rules in
    undeclared_there acts own (entity_of c.args.entity.now) _ shared.value c.in_ok-clone.field-0 copied
    (subst P
    (next_item c.as_slice-ids.result.now c.loop-shared.shared-index shared c.loop-shared-test.true c.shared-item.is)
    c.loop-shared.invariant.among)
    undeclared
