use Rattle.std.proofs.Common.{◌≡◌, ◌∙◌, ap, sym, subst, Bool, false, cond, [], map, List, Some, option_map}
use Rattle.std.specs.List.{list_all, list_any}
use Rattle.cedar_types.specs.Schemas.Declarations.{declared_action}
use Rattle.cedar_types.specs.Schemas.Listings.{ListsActions, actions_within}
use Rattle.cedar_types.specs.Names.{Uid, uid_of, placed_uid}
use Rattle.cedar_types.specs.Schemas.Contents.{schema_of}
use Rattle.cedar_types.specs.Schemas.{DeclaredAction, declares_action}
use Rattle.cedar_typechecker.specs.Scopes.{declarations}
use Rattle.cedar_typechecker.proofs.Answers.{ids_of, same_declarations}
use Rattle.cedar_typechecker.proofs.rbac.actions.actions_within.Goals as goal

-- the admitted actions, from the ids and from whether all are declared
abbrev admitted : List DeclaredAction → Bool → List Uid → List DeclaredAction
admitted acts b ids = cond b (declarations acts (actions_within acts ids)) []

pub returns-in-None : goal.returns-in-None
returns-in-None c = λ p.
    let acts : List DeclaredAction = (schema_of c.args.schema.now).actions in
    let us : List Uid = map uid_of c.args.uids.now in
    let ids : List Uid = map (λ u. u.uid) (map placed_uid c.args.uids.now) in
    let unknown : list_all (declares_action acts) us
    ≡ false = subst (λ o. ListsActions acts us (option_map (λ v. map (λ u. uid_of u.now) v.items) o))
    c.in-None.is c.in_ok-ids.ensures in
    ap (λ xs. list_any p (map (λ a. declared_action a.now) xs)) c.new.ensures.items
    ∙ sym (ap (λ b. list_any p (admitted acts b ids)) (ap (list_all (declares_action acts)) (ids_of c.args.uids.now) ∙ unknown))

pub returns-in_ok-actions-in-Some : goal.returns-in_ok-actions-in-Some
returns-in_ok-actions-in-Some c = λ p.
    let acts : List DeclaredAction = (schema_of c.args.schema.now).actions in
    let us : List Uid = map uid_of c.args.uids.now in
    let ids : List Uid = map (λ u. u.uid) (map placed_uid c.args.uids.now) in
    let listed : ListsActions acts us (Some (map (λ u. uid_of u.now) c.in-Some.ids.items)) = subst
    (λ o. ListsActions acts us (option_map (λ v. map (λ u. uid_of u.now) v.items) o))
    c.in-Some.is c.in_ok-ids.ensures in
    ap (list_any p) c.in_ok-actions-in-Some.ensures
    ∙ ap (λ xs. list_any p (declarations acts (map (λ u. uid_of u.now) xs))) c.as_slice.ensures.value
    ∙ same_declarations acts (map (λ u. uid_of u.now) c.in-Some.ids.items) (actions_within acts us) listed.1.members p
    ∙ sym (ap (λ vs. list_any p (declarations acts (actions_within acts vs))) (ids_of c.args.uids.now))
    ∙ sym (ap (λ b. list_any p (admitted acts b ids)) (ap (list_all (declares_action acts)) (ids_of c.args.uids.now) ∙ listed.0))
