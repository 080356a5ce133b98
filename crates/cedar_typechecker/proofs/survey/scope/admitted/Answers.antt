use Rattle.std.proofs.Common.{◌≡◌, List, [], ◌∷◌, map, true, ◌&&◌, ◌||◌, Some, option_map, refl, sym, ap, subst, ◌∙◌, Bool, false, None}
use Rattle.std.specs.List.{list_all, list_any}
use Rattle.cedar_types.specs.declared.base.names.entities.EntityUID.{EntityUID}
use Rattle.cedar_types.specs.declared.base.templates.constraints.ActionConstraint.{ActionConstraint}
use Rattle.cedar_types.specs.Names.{Path, Uid, PlacedUid, path_eq, uid_of, placed_uid, uid_eq}
use Rattle.cedar_types.specs.Schemas.{DeclaredAction, declares_action, uid_is_among, descendants_of_action}
use Rattle.cedar_types.specs.Schemas.Contents.{schema_of}
use Rattle.cedar_types.specs.Schemas.Listings.{ListsActions}
use Rattle.cedar_types.specs.Templates.{action_scope_of}
use Rattle.cedar_typing.specs.Representatives.{are_named_alike}
use Rattle.cedar_typing.specs.Rules.Membership.{is_action}
use Rattle.cedar_typechecker.specs.LeftOut.{are_of_type, are_of_one_action_type, is_decided, Admits}
use Rattle.cedar_typechecker.proofs.LeftOut.Sets.{within_is}
use Rattle.cedar_typechecker.proofs.survey.scope.admitted.Goals as goal

shuffled : (d e f g : Bool) → ((d && e) && (f && g)) ≡ ((d && f) && (e && g))
shuffled false e f g = refl
shuffled true false false g = refl
shuffled true false true g = refl
shuffled true true f g = refl

module _ (acts : List DeclaredAction) where
  both : (p : Path) (us : List Uid) → list_all (λ v. declares_action acts v && path_eq v.entity_type p) us
      ≡ (list_all (declares_action acts) us && are_of_type p us)
  both p [] = refl
  both p (u ∷ us) =
      ap (λ b. (declares_action acts u && path_eq u.entity_type p) && b) (both p us)
      ∙ shuffled (declares_action acts u) (path_eq u.entity_type p) (list_all (declares_action acts) us) (are_of_type p us)

  turned : (a d e : Bool) → (a && (d && e)) ≡ ((a && e) && d)
  turned false d e = refl
  turned true false false = refl
  turned true false true = refl
  turned true true false = refl
  turned true true true = refl

  -- ids of one action's type, all of them declared
  named_alike : (us : List Uid) → are_named_alike acts us ≡ (are_of_one_action_type us && list_all (declares_action acts) us)
  named_alike [] = refl
  named_alike (u ∷ us) =
      ap (λ b. is_action u && b) (both u.entity_type (u ∷ us))
      ∙ turned (is_action u) (list_all (declares_action acts) (u ∷ us)) (are_of_type u.entity_type (u ∷ us))

-- the ids of a list, placed or not
ids : (us : List EntityUID) → map (λ (p : PlacedUid). p.uid) (map placed_uid us) ≡ map uid_of us
ids [] = refl
ids (u ∷ us) = ap (λ vs. uid_of u ∷ vs) (ids us)

never : (b : Bool) → (b && false) ≡ false
never true = refl
never false = refl

pub returns-then-not-are_of_one_action_type : goal.returns-then-not-are_of_one_action_type
returns-then-not-are_of_one_action_type c =
    let acts = (schema_of c.args.schema.now).actions in
    let us : List Uid = map uid_of c.in-In.actions.items in
    let apart : are_of_one_action_type us ≡ false =
    ap (λ xs. are_of_one_action_type (map uid_of xs)) (sym c.deref.ensures.value) ∙ sym c.are_of_one_action_type.ensures
    ∙ c.if-not-are_of_one_action_type.true in
    let P : ActionConstraint → Type 0 = λ a. is_decided acts (action_scope_of a) ≡ false in
    subst P (sym c.in-In.is)
    (ap (are_named_alike acts) (ids c.in-In.actions.items) ∙ named_alike acts us ∙ ap (λ b. b && list_all (declares_action acts) us) apart)

pub returns-in-None : goal.returns-in-None
returns-in-None c =
    let acts = (schema_of c.args.schema.now).actions in
    let us : List Uid = map uid_of c.in-In.actions.items in
    let lists : ListsActions acts us None =
    subst (λ o. ListsActions acts us (option_map (λ v. map (λ u. uid_of u.now) v.items) o)) c.in-None.is
    (subst (λ xs. ListsActions acts (map uid_of xs) (option_map (λ v. map (λ u. uid_of u.now) v.items) c.in_ok-get_actions_in_set-in-In.field-0))
    c.deref-in-In.ensures.value c.in_ok-get_actions_in_set-in-In.ensures) in
    let P : ActionConstraint → Type 0 = λ a. is_decided acts (action_scope_of a) ≡ false in
    subst P (sym c.in-In.is)
    (ap (are_named_alike acts) (ids c.in-In.actions.items) ∙ named_alike acts us
    ∙ ap (λ b. are_of_one_action_type us && b) lists ∙ never (are_of_one_action_type us))

pub returns-in_ok-set_of-in-Some : goal.returns-in_ok-set_of-in-Some
returns-in_ok-set_of-in-Some c =
    let acts = (schema_of c.args.schema.now).actions in
    let items = c.in-In.actions.items in
    let us : List Uid = map uid_of items in
    let keys = c.in_ok-set_of-in-Some.field-0.keys in
    let named : are_of_one_action_type us ≡ true =
    ap (λ xs. are_of_one_action_type (map uid_of xs)) (sym c.deref.ensures.value) ∙ sym c.are_of_one_action_type.ensures ∙ c.if-not-are_of_one_action_type.false in
    let lists : ListsActions acts us (Some (map (λ u. uid_of u.now) c.in-Some.within.items)) =
    subst (λ o. ListsActions acts us (option_map (λ v. map (λ u. uid_of u.now) v.items) o)) c.in-Some.is
    (subst (λ xs. ListsActions acts (map uid_of xs) (option_map (λ v. map (λ u. uid_of u.now) v.items) c.in_ok-get_actions_in_set-in-In.field-0))
    c.deref-in-In.ensures.value c.in_ok-get_actions_in_set-in-In.ensures) in
    let P : ActionConstraint → Type 0 = λ a. Admits acts (action_scope_of a) (map uid_of keys) in
    subst P (sym c.in-In.is) (record {
      alike = ap (are_named_alike acts) (ids items) ∙ named_alike acts us ∙ (λ i. named i && lists.0 i);
      members = λ u.
          c.in_ok-set_of-in-Some.ensures u
          ∙ ap (λ xs. uid_is_among (map (λ a. uid_of a.now) xs) u) c.deref-in-Some.ensures.value
          ∙ lists.1.members u
          ∙ within_is acts u us
          ∙ ap (list_any (λ v. uid_eq u v || uid_is_among (descendants_of_action acts v) u)) (sym (ids items));
    })
