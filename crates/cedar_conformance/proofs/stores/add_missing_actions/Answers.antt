use Rattle.std.proofs.Common.{◌&&◌, ◌+◌, ap, sym, subst, ◌∙◌, List, map, drop, is_some}
use Rattle.std.specs.Borrow.{Bor}
use Rattle.cedar_types.proofs.Items.{next_item}
use Rattle.cedar_types.specs.Names.{uid_of}
use Rattle.cedar_types.specs.Schemas.Contents.{schema_of}
use Rattle.cedar_types.specs.Schemas.Declarations.{declared_action}
use Rattle.cedar_types.specs.Schemas.{DeclaredAction}
use Rattle.cedar_types.specs.Values.Stores.{entity_at}
use Rattle.cedar_types.specs.declared.base.schema.actions.ValidatorActionId.{ValidatorActionId}
use Rattle.cedar_conformance.specs.Answers.{finds_none, lists_none, passes_if_any}
use Rattle.cedar_conformance.specs.Entities.{store_of}
use Rattle.cedar_conformance.specs.EntityFaults.{is_there}
use Rattle.cedar_conformance.specs.StoreTests.{are_there}
use Rattle.cedar_conformance.proofs.Among.{IsAmong, among_moved, among_tail}
use Rattle.cedar_conformance.proofs.FoundFaults.{action_there, and_more, none_of_missing}
use Rattle.cedar_conformance.proofs.Lists.{all_moved}
use Rattle.cedar_conformance.proofs.stores.add_missing_actions.Goals as goal

pub loop-action-init : goal.loop-action-init
loop-action-init c =
    let acts = (schema_of c.args.schema.now).actions in
    let store = store_of c.args.entities.now in
    let stored = λ (a : DeclaredAction). is_some (entity_at store a.name) in
    let P : List (Bor ValidatorActionId) → Type 0 = λ xs. IsAmong (map (λ a. declared_action a.now) xs) acts in
    record {
      none =
          ap (λ b. lists_none c.args.faults.now.items && b)
          (ap (λ xs. are_there (map (λ a. declared_action a.now) xs) store) c.deref-action-items.ensures.value
          ∙ sym (all_moved stored _ _ c.in_ok-actions.ensures));
      among = subst P (sym c.deref-action-items.ensures.value) (among_moved acts _ c.in_ok-actions.ensures);
      there = λ h. h;
    }

pub loop-action-preserved : goal.loop-action-preserved
loop-action-preserved c =
    let schema = schema_of c.args.schema.now in
    let store = store_of c.args.entities.now in
    let x = c.action-item.result in
    let name = uid_of x.now.name in
    let items = c.deref-action-items.result.now in
    let i = c.loop-action.action-index in
    let old = lists_none c.loop-action.faults.items in
    let inv = c.loop-action.invariant in
    let next = next_item items i x c.loop-action-test.true c.action-item.is in
    let rest = are_there (map (λ a. declared_action a.now) (drop (i + 1) items)) store in
    let P : List (Bor ValidatorActionId) → Type 0 = λ xs. IsAmong (map (λ a. declared_action a.now) xs) schema.actions in
    let among = subst P next inv.among in
    record {
      none =
          ap (λ b. b && rest)
          (c.in_ok-add_found.ensures.none ∙ ap (λ o. old && finds_none o) c.find_missing_action-found.ensures
          ∙ ap (λ b. old && b) (none_of_missing (entity_at store name)))
          ∙ and_more old (is_some (entity_at store name)) rest
          ∙ ap (λ xs. old && are_there (map (λ a. declared_action a.now) xs) store) (sym next)
          ∙ inv.none;
      among = among_tail (declared_action x.now) _ schema.actions among;
      there = λ h.
          c.in_ok-add_found.ensures.there (is_there schema store) (inv.there h)
          (ap (passes_if_any (is_there schema store name)) c.find_missing_action-found.ensures
          ∙ action_there schema store (declared_action x.now) _ among);
    }
