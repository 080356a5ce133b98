-- Membership of entities, in a store that conforms to a schema without faults.
use Rattle.std.proofs.Common.{◌≡◌, Bool, true, false, ◌&&◌, ◌||◌, List, [], ◌∷◌, Option, Some, None, if◌then◌else◌, refl, sym, ◌∙◌, ap}
use Rattle.std.proofs.Common.{subst}
use Rattle.std.specs.List.{list_any, list_all}
use Rattle.std.proofs.Math.Bool.{or-false}
use Rattle.cedar_types.specs.Names.{Path, Uid, is_action_path, path_eq, uid_eq}
use Rattle.cedar_types.specs.Lemmas.Comparisons.{and_left, and_right, path_same, uid_same}
use Rattle.cedar_types.specs.Schemas.{DeclaredType, DeclaredAction, Schema, uid_is_among, is_among, type_named, action_named}
use Rattle.cedar_types.specs.Schemas.{declares_action, action_descendants, descendants_of, descendants_of_action, declares_action_type}
use Rattle.cedar_types.specs.Schemas.{repeats_action, action_is_below, is_open_type, may_be_in, any_may_be_in, has_fault}
use Rattle.cedar_types.specs.Values.Stores.{Entity, Store, entity_at, declares_ancestor, FitsDeclaration, ConformingStore}
use Rattle.cedar_types.proofs.Schema.Faultless.{faultless}
use Rattle.cedar_types.proofs.Schema.Memberships.{memberships_allowed}
use Rattle.cedar_types.proofs.Tests.{found, each}
use Rattle.cedar_typing.specs.Evaluation.Eval.{has_ancestor, is_in}
use Rattle.cedar_typing.specs.Rules.Membership.{is_action, is_action_in, only_actions}
use Rattle.cedar_typing.proofs.Basics.{none_is, or_cases, neither_left, neither_right}

-- ---- declarations

-- no declared entity type has the name of an action's type
unnamed : (ts : List DeclaredType) (p : Path) → declares_action_type ts ≡ false → is_action_path p ≡ true → type_named ts p ≡ None
unnamed [] p n a = refl
unnamed (t ∷ ts) p n a = go (path_eq p t.name) refl (unnamed ts p (neither_right (is_action_path t.name) (declares_action_type ts) n) a)
  where
    go : (b : Bool) → path_eq p t.name ≡ b → type_named ts p ≡ None → (if b then Some t else type_named ts p) ≡ None
    go true e k =
        let one : is_action_path t.name ≡ true = subst (λ q. is_action_path q ≡ true) (path_same.to p t.name e) a in
        let none : is_action_path t.name ≡ false = neither_left (is_action_path t.name) (declares_action_type ts) n in
        cc
    go false e k = k

-- if no other action has the name of a, none of them has an ancestor by that name
named_once : (a : DeclaredAction) (acts : List DeclaredAction) (u v : Uid) → v ≡ a.name → list_any (λ b. uid_eq a.name b.name) acts ≡ false
    → declares_ancestor acts u v ≡ false
named_once a acts u v e n = go (declares_ancestor acts u v) refl
  where
    go : (b : Bool) → declares_ancestor acts u v ≡ b → declares_ancestor acts u v ≡ false
    go false k = k
    go true k =
        let b = found (λ b. uid_eq v b.name && uid_is_among b.descendants u) acts k in
        let name = b.element.name in
        let same = subst (λ w. uid_eq w name ≡ true) e (and_left (uid_eq v name) (uid_is_among b.element.descendants u) b.passes) in
        let one : list_any (λ b. uid_eq a.name b.name) acts ≡ true = b.within.passes (λ b. uid_eq a.name b.name) same in
        cc

-- if no action is declared twice, the descendants of an action are those by its name
descends : (acts : List DeclaredAction) (u v : Uid) → repeats_action acts ≡ false
    → uid_is_among (descendants_of_action acts v) u ≡ declares_ancestor acts u v
descends [] u v n = refl
descends (a ∷ acts) u v n =
    go (uid_eq v a.name) refl (descends acts u v (neither_right (list_any (λ b. uid_eq a.name b.name) acts) (repeats_action acts) n))
  where
    go : (b : Bool) → uid_eq v a.name ≡ b → uid_is_among (descendants_of_action acts v) u ≡ declares_ancestor acts u v
        → uid_is_among (action_descendants (if b then Some a else action_named acts v)) u
        ≡ ((b && uid_is_among a.descendants u) || declares_ancestor acts u v)
    go true e k =
        let others = neither_left (list_any (λ b. uid_eq a.name b.name) acts) (repeats_action acts) n in
        let rest = named_once a acts u v (uid_same.to v a.name e) others in
        sym (ap (λ b. uid_is_among a.descendants u || b) rest ∙ or-false (uid_is_among a.descendants u))
    go false e k = k

-- ---- the store

first : (a b c d e : Bool) → a ≡ true → (a || b || c || d || e) ≡ true
first a b c d e h = ap (λ a. a || b || c || d || e) h

module _ (s : Schema) (faults : has_fault s ≡ false) where
  -- an entity with a declared ancestor is declared
  descendant_declared : (u v : Uid) → declares_ancestor s.actions u v ≡ true → declares_action s.actions u ≡ true
  descendant_declared u v k =
      let a = found (λ a. uid_eq v a.name && uid_is_among a.descendants u) s.actions k in
      let ds = a.element.descendants in
      let d = found (uid_eq u) ds (and_right (uid_eq v a.element.name) (uid_is_among ds u) a.passes) in
      let all = each (λ a. list_all (declares_action s.actions) a.descendants) s.actions a.element
      (faultless s faults).descendants a.within in
      subst (λ w. declares_action s.actions w ≡ true) (sym (uid_same.to u d.element d.passes))
      (each (declares_action s.actions) ds d.element all d.within)

  -- a declared ancestor is an action
  ancestor_acts : (u v : Uid) → declares_ancestor s.actions u v ≡ true → is_action v ≡ true
  ancestor_acts u v k =
      let a = found (λ a. uid_eq v a.name && uid_is_among a.descendants u) s.actions k in
      let same = uid_same.to v a.element.name (and_left (uid_eq v a.element.name) (uid_is_among a.element.descendants u) a.passes) in
      subst (λ w. is_action w ≡ true) (sym same)
      (each (λ a. is_action_path a.name.entity_type) s.actions a.element (faultless s faults).actions a.within)

  module _ (store : Store) (conforms : ConformingStore s store) where
    -- an entity that is not in the store has no declared ancestor
    absent : (u v : Uid) → entity_at store u ≡ None → declares_ancestor s.actions u v ≡ false
    absent u v n = go (declares_ancestor s.actions u v) refl
      where
        go : (b : Bool) → declares_ancestor s.actions u v ≡ b → declares_ancestor s.actions u v ≡ false
        go false k = k
        go true k =
            let e = conforms.actions u (descendant_declared u v k) in
            absurd (none_is (sym n ∙ e.1))

    -- the ancestors of an action in the store are the declared ones
    stored : (u v : Uid) → is_action u ≡ true → has_ancestor (entity_at store u) v ≡ declares_ancestor s.actions u v
    stored u v a = go (entity_at store u) refl
      where
        go : (o : Option Entity) → entity_at store u ≡ o → has_ancestor o v ≡ declares_ancestor s.actions u v
        go None k = sym (absent u v k)
        go (Some e) k =
            let none = unnamed s.types u.entity_type (faultless s faults).no_action_type a in
            let fits : FitsDeclaration s u None e = subst (λ d. FitsDeclaration s u d e) none (conforms.entities u e k) in
            fits.1.ancestors v

    -- an action is in another if it is that action, or a declared descendant of it
    in_action : (u v : Uid) → is_action u ≡ true → is_in store u v ≡ (uid_eq u v || uid_is_among (descendants_of_action s.actions v) u)
    in_action u v a = ap (λ b. uid_eq u v || b) (stored u v a ∙ sym (descends s.actions u v (faultless s faults).actions_apart))

    -- an action is only in actions
    not_in_others : (u v : Uid) → is_action u ≡ true → is_action v ≡ false → is_in store u v ≡ false
    not_in_others u v a n = go (is_in store u v) refl
      where
        other : is_action v ≡ true → is_in store u v ≡ false
        other e = cc

        go : (b : Bool) → is_in store u v ≡ b → is_in store u v ≡ false
        go false k = k
        go true k =
            or_cases (uid_eq u v) (has_ancestor (entity_at store u) v) (is_in store u v ≡ false)
            (λ e. other (subst (λ w. is_action w ≡ true) (uid_same.to u v e) a))
            (λ e. other (ancestor_acts u v (sym (stored u v a) ∙ e))) k

    -- an action is in some entities exactly if the declarations have it among the actions of these
    pub in_actions : (u : Uid) → is_action u ≡ true → (vs : List Uid)
        → list_any (is_in store u) vs ≡ is_action_in s.actions u (only_actions vs)
    in_actions u a [] = refl
    in_actions u a (v ∷ vs) = go (is_action v) refl (in_actions u a vs)
      where
        go : (b : Bool) → is_action v ≡ b → list_any (is_in store u) vs ≡ is_action_in s.actions u (only_actions vs)
            → (is_in store u v || list_any (is_in store u) vs)
            ≡ is_action_in s.actions u (if b then v ∷ only_actions vs else only_actions vs)
        go true e k = λ i. in_action u v a i || k i
        go false e k = ap (λ b. b || list_any (is_in store u) vs) (not_in_others u v a e) ∙ k

    -- ---- any entity

    allowed : (u v : Uid) (o : Option Entity) → entity_at store u ≡ o → has_ancestor o v ≡ true
        → may_be_in s u.entity_type v.entity_type ≡ true
    allowed u v None e h = cc
    allowed u v (Some x) e h = memberships_allowed s faults store conforms u v (x, e, h)

    -- if an entity is in another, its type may be in the other's type
    in_allowed : (u v : Uid) → is_in store u v ≡ true → may_be_in s u.entity_type v.entity_type ≡ true
    in_allowed u v h =
        let l = u.entity_type in
        let r = v.entity_type in
        or_cases (uid_eq u v) (has_ancestor (entity_at store u) v) (may_be_in s l r ≡ true)
        (λ e.
        first (path_eq l r) (is_open_type s.types l) (is_open_type s.types r)
        (is_among (descendants_of s.types r) l) (action_is_below s.actions l r)
        (subst (λ (w : Uid). path_eq l w.entity_type ≡ true) (uid_same.to u v e) (path_same.itself l)))
        (allowed u v (entity_at store u) refl) h

    -- no entity is in another if the schema denies it of their types
    pub in_denied : (ps qs : List Path) → any_may_be_in s ps qs ≡ false → (u v : Uid)
        → is_among ps u.entity_type ≡ true → is_among qs v.entity_type ≡ true → is_in store u v ≡ false
    in_denied ps qs n u v h k = go (is_in store u v) refl
      where
        go : (b : Bool) → is_in store u v ≡ b → is_in store u v ≡ false
        go false e = e
        go true e =
            let p = found (path_eq u.entity_type) ps h in
            let q = found (path_eq v.entity_type) qs k in
            let may : may_be_in s p.element q.element ≡ true =
            subst (λ l. may_be_in s l q.element ≡ true) (path_same.to u.entity_type p.element p.passes)
            (subst (λ r. may_be_in s u.entity_type r ≡ true) (path_same.to v.entity_type q.element q.passes) (in_allowed u v e)) in
            let some : any_may_be_in s ps qs ≡ true =
            p.within.passes (λ l. list_any (may_be_in s l) qs) (q.within.passes (may_be_in s p.element) may) in
            cc
