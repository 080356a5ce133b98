-- Found faults: a fault that a search finds is there.
use Rattle.std.proofs.Common.{◌≡◌, refl, ap, ◌∙◌, Bool, true, false, not, ◌&&◌, ◌||◌, List, ◌∷◌, Option, Some, None, is_some}
use Rattle.std.specs.List.{list_any}
use Rattle.cedar_types.proofs.Tests.{and_both, or_left, or_right}
use Rattle.cedar_types.specs.Lemmas.Comparisons.{uid_same}
use Rattle.cedar_types.specs.Names.{Path, Uid, uid_of, uid_eq, placed_uid}
use Rattle.cedar_types.specs.Schemas.{DeclaredType, DeclaredAction, Schema, declares_action, type_named, uid_is_among}
use Rattle.cedar_types.specs.Values.Stores.{Entity, Store, declares_ancestor, entity_at}
use Rattle.cedar_types.specs.declared.base.names.entities.EntityUID.{EntityUID}
use Rattle.cedar_conformance.specs.declared.entity_faults.EntityProblem.{EntityProblem}
use Rattle.cedar_conformance.specs.declared.entity_faults.EntityProblem.TheVariants as problem
use Rattle.cedar_conformance.specs.Answers.{finds_none, passes_if_any}
use Rattle.cedar_conformance.specs.EntityFaults.{ancestors_have, action_has, entity_has, entry_has, lacks_action, is_there, missing_action}
use Rattle.cedar_conformance.specs.StoreTests.{ancestor_fits, has_its_ancestor}
use Rattle.cedar_conformance.proofs.Among.{IsAmong, among_head}
use Rattle.cedar_conformance.proofs.Among as among

same_id : (u v : EntityUID) → placed_uid v ≡ placed_uid u → uid_of v ≡ uid_of u
same_id u v e = ap (λ p. p.uid) e

is_one : (us xs : List Uid) (u v : EntityUID) → placed_uid v ≡ placed_uid u → IsAmong (uid_of u ∷ xs) us
    → uid_is_among us (uid_of v) ≡ true
is_one us xs u v e h =
    ap (uid_is_among us) (same_id u v e)
    ∙ among_head (uid_of u) xs us h (uid_eq (uid_of u)) (uid_same.itself (uid_of u))

-- the fault is there: an ancestor of a type in which the entity's type may not be
pub ancestor_there : (ts : List DeclaredType) (p : Path) (us xs : List Uid) (u v : EntityUID)
    → placed_uid v ≡ placed_uid u → IsAmong (uid_of u ∷ xs) us → ancestor_fits ts p (uid_of u) ≡ false
    → ancestors_have ts p us (problem.Ancestor v) ≡ true
ancestor_there ts p us xs u v e h unfit =
    and_both (uid_is_among us (uid_of v)) (not (ancestor_fits ts p (uid_of v))) (is_one us xs u v e h)
    (ap (λ x. not (ancestor_fits ts p x)) (same_id u v e) ∙ ap not unfit)

-- the fault is there: an ancestor of an action that is not a declared one
pub undeclared_there : (acts : List DeclaredAction) (own : Uid) (e : Entity) (xs : List Uid) (u v : EntityUID)
    → placed_uid v ≡ placed_uid u → IsAmong (uid_of u ∷ xs) e.ancestors → declares_ancestor acts own (uid_of u) ≡ false
    → action_has acts own e (problem.UndeclaredAncestor v) ≡ true
undeclared_there acts own e xs u v same h undeclared =
    and_both (uid_is_among e.ancestors (uid_of v)) (not (declares_ancestor acts own (uid_of v)))
    (is_one e.ancestors xs u v same h)
    (ap (λ x. not (declares_ancestor acts own x)) (same_id u v same) ∙ ap not undeclared)

denied : (b : Bool) → not b ≡ false → b ≡ true
denied true h = refl
denied false h = cc

-- the fault is there: a declared ancestor that the action lacks
pub missing_there : (acts : List DeclaredAction) (own : Uid) (e : Entity) (a : DeclaredAction) (xs : List DeclaredAction)
    (v : EntityUID) → uid_of v ≡ a.name → IsAmong (a ∷ xs) acts → has_its_ancestor own e a ≡ false
    → action_has acts own e (problem.MissingAncestor v) ≡ true
missing_there acts own e a xs v same h lacks =
    let below = denied (uid_is_among a.descendants own)
    (or_left (not (uid_is_among a.descendants own)) (uid_is_among e.ancestors a.name) lacks) in
    let gone = or_right (not (uid_is_among a.descendants own)) (uid_is_among e.ancestors a.name) lacks in
    and_both (declares_ancestor acts own (uid_of v)) (not (uid_is_among e.ancestors (uid_of v)))
    (ap (declares_ancestor acts own) same
    ∙ among_head a xs acts h (λ b. uid_eq a.name b.name && uid_is_among b.descendants own)
    (and_both (uid_eq a.name a.name) (uid_is_among a.descendants own) (uid_same.itself a.name) below))
    (ap (λ x. not (uid_is_among e.ancestors x)) same ∙ ap not gone)

-- a problem that is found in an entry is there
pub entry_there : (s : Schema) (store : Store) (x : Uid × Entity) (xs : Store) → IsAmong (x ∷ xs) store
    → (o : Option EntityProblem)
    → passes_if_any (entity_has s x.0 (type_named s.types x.0.entity_type) x.1) o ≡ true
    → passes_if_any (is_there s store x.0) o ≡ true
entry_there s store x xs h None k = refl
entry_there s store x xs h (Some f) k =
    among.or_right (lacks_action s store x.0 f) (list_any (entry_has s x.0 f) store)
    (among_head x xs store h (entry_has s x.0 f)
    (and_both (uid_eq x.0 x.0) (entity_has s x.0 (type_named s.types x.0.entity_type) x.1 f) (uid_same.itself x.0) k))

-- a missing declared action that is found is there
pub action_there : (s : Schema) (store : Store) (a : DeclaredAction) (xs : List DeclaredAction) → IsAmong (a ∷ xs) s.actions
    → passes_if_any (is_there s store a.name) (missing_action (entity_at store a.name)) ≡ true
action_there s store a xs h = at (entity_at store a.name) refl
  where
    at : (o : Option Entity) → entity_at store a.name ≡ o → passes_if_any (is_there s store a.name) (missing_action o) ≡ true
    at None e =
        ap (λ b. b || list_any (entry_has s a.name problem.MissingAction) store)
        (and_both (declares_action s.actions a.name) (not (is_some (entity_at store a.name)))
        (among_head a xs s.actions h (λ b. uid_eq a.name b.name) (uid_same.itself a.name))
        (ap (λ x. not (is_some x)) e))
    at (Some x) e = refl

-- no missing action is found iff the action is stored
pub none_of_missing : (o : Option Entity) → finds_none (missing_action o) ≡ is_some o
none_of_missing None = refl
none_of_missing (Some x) = refl

pub and_more : (a b r : Bool) → ((a && b) && r) ≡ (a && (b && r))
and_more true b r = refl
and_more false b r = refl
