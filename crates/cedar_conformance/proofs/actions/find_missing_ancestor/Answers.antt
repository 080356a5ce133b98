use Rattle.std.proofs.Common.{◌≡◌, ◌∙◌, rules, false, ap, sym, subst, List, map}
use Rattle.std.specs.Borrow.{Bor}
use Rattle.std.specs.List.{list_all}
use Rattle.cedar_types.specs.Names.{uid_of}
use Rattle.cedar_types.specs.Schemas.Contents.{schema_of}
use Rattle.cedar_types.specs.Schemas.Declarations.{declared_action}
use Rattle.cedar_types.specs.declared.base.schema.actions.ValidatorActionId.{ValidatorActionId}
use Rattle.cedar_conformance.specs.Entities.{entity_of}
use Rattle.cedar_conformance.specs.StoreTests.{has_its_ancestor}
use Rattle.cedar_conformance.proofs.Among.{IsAmong, among_moved}
use Rattle.cedar_conformance.proofs.FoundFaults.{missing_there}
use Rattle.cedar_conformance.proofs.Lists.{all_moved}
use Rattle.cedar_types.proofs.Items.{next_item}
use Rattle.cedar_conformance.proofs.actions.find_missing_ancestor.Goals as goal

pub loop-action-init : goal.loop-action-init
loop-action-init c =
    let acts = (schema_of c.args.schema.now).actions in
    let P : List (Bor ValidatorActionId) → Type 0 = λ xs. IsAmong (map (λ a. declared_action a.now) xs) acts in
    record {
      none =
          ap (λ xs. list_all (has_its_ancestor (uid_of c.args.id.now) (entity_of c.args.entity.now)) (map (λ a. declared_action a.now) xs))
          c.deref-action-items.ensures.value
          ∙ sym (all_moved (has_its_ancestor (uid_of c.args.id.now) (entity_of c.args.entity.now)) _ _ c.in_ok-actions.ensures);
      among = subst P (sym c.deref-action-items.ensures.value) (among_moved acts _ c.in_ok-actions.ensures);
    }

pub returns-then-not-has_ancestor_of-clause-there :
    goal.returns-then-not-has_ancestor_of-clause-there
returns-then-not-has_ancestor_of-clause-there c =
    let acts = (schema_of c.args.schema.now).actions in
    let own = uid_of c.args.id.now in
    let e = entity_of c.args.entity.now in
    let P : List (Bor ValidatorActionId) → Type 0 = λ xs. IsAmong (map (λ a. declared_action a.now) xs) acts in
    let lacks : has_its_ancestor own e (declared_action c.action-item.result.now) ≡ false = search rules in
    missing_there acts own e (declared_action c.action-item.result.now) _ c.in_ok-clone.field-0
    (ap (λ p. p.uid) c.in_ok-clone.ensures.cases)
    (subst P
    (next_item c.deref-action-items.result.now c.loop-action.action-index c.action-item.result c.loop-action-test.true
    c.action-item.is)
    c.loop-action.invariant.among)
    lacks
