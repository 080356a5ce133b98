-- Declared ancestors of an action, if no action is declared twice.
use Rattle.std.proofs.Common.{◌≡◌, refl, sym, ap, subst, ◌∙◌, Bool, true, false, ◌&&◌, ◌||◌, List, [], ◌∷◌, Some}
use Rattle.std.proofs.Common.{if◌then◌else◌}
use Rattle.std.specs.List.{list_any}
use Rattle.std.proofs.Math.Bool.{or-false}
use Rattle.cedar_types.specs.Names.{Uid, uid_eq}
use Rattle.cedar_types.specs.Lemmas.Comparisons.{and_left, uid_same}
use Rattle.cedar_types.specs.Schemas.Contents.{schema_of}
use Rattle.cedar_types.specs.Schemas.{DeclaredAction, uid_is_among, action_named, action_descendants, repeats_action, has_fault}
use Rattle.cedar_types.specs.Values.Stores.{declares_ancestor}
use Rattle.cedar_types.specs.declared.base.schema.ValidatorSchema.{ValidatorSchema}
use Rattle.cedar_types.proofs.Schema.Faultless.{faultless}
use Rattle.cedar_types.proofs.Tests.{found}
use Rattle.cedar_typing.proofs.Basics.{neither_left, neither_right}

-- if no other action has the name of a, none of them is a declared ancestor of that name
named_once : (a : DeclaredAction) (acts : List DeclaredAction) (u v : Uid) → v ≡ a.name → list_any (λ b. uid_eq a.name b.name) acts ≡ false
    → declares_ancestor acts u v ≡ false
named_once a acts u v e n = go (declares_ancestor acts u v) refl
  where
    go : (b : Bool) → declares_ancestor acts u v ≡ b → declares_ancestor acts u v ≡ false
    go false k = k
    go true k =
        let b = found (λ b. uid_eq v b.name && uid_is_among b.descendants u) acts k in
        let name = b.element.name in
        let same = subst (λ w. uid_eq w name ≡ true) e (and_left (uid_eq v name) (uid_is_among b.element.descendants u) b.passes) in
        let one : list_any (λ b. uid_eq a.name b.name) acts ≡ true = b.within.passes (λ b. uid_eq a.name b.name) same in
        cc

-- the ancestors of an action are the declared actions that have it as a descendant
pub ancestors_named : (acts : List DeclaredAction) (u v : Uid) → repeats_action acts ≡ false
    → uid_is_among (action_descendants (action_named acts v)) u ≡ declares_ancestor acts u v
ancestors_named [] u v n = refl
ancestors_named (a ∷ acts) u v n =
    go (uid_eq v a.name) refl (ancestors_named acts u v (neither_right (list_any (λ b. uid_eq a.name b.name) acts) (repeats_action acts) n))
  where
    go : (b : Bool) → uid_eq v a.name ≡ b → uid_is_among (action_descendants (action_named acts v)) u ≡ declares_ancestor acts u v
        → uid_is_among (action_descendants (if b then Some a else action_named acts v)) u
        ≡ ((b && uid_is_among a.descendants u) || declares_ancestor acts u v)
    go true e k =
        let others = neither_left (list_any (λ b. uid_eq a.name b.name) acts) (repeats_action acts) n in
        let rest = named_once a acts u v (uid_same.to v a.name e) others in
        sym (ap (λ b. uid_is_among a.descendants u || b) rest ∙ or-false (uid_is_among a.descendants u))
    go false e k = k

-- no schema has a fault
pub without_faults : (s : ValidatorSchema) → has_fault (schema_of s) ≡ false
unfolding schema_of
without_faults s = s.faultless

-- no schema declares an action twice
pub apart : (s : ValidatorSchema) → repeats_action (schema_of s).actions ≡ false
apart s = (faultless (schema_of s) (without_faults s)).actions_apart
