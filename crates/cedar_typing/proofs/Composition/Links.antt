-- The slots of a template, and the environments in which it is checked.
use Rattle.std.proofs.Common.{◌≡◌, inl, Bool, true, false, ◌||◌, List, [], ◌∷◌, map, Option, Some, None, refl, sym, ◌∙◌, ap}
use Rattle.cedar_types.specs.declared.base.location.Loc.{Loc}
use Rattle.cedar_types.specs.declared.base.names.slots.SlotId.{SlotId}
use Rattle.cedar_types.specs.declared.base.types.ValidationMode.{ValidationMode}
use Rattle.cedar_types.specs.Names.{Path}
use Rattle.cedar_types.specs.Schemas.{DeclaredType, Schema}
use Rattle.cedar_types.specs.Environments.{DeclaredEnv, environments_of}
use Rattle.cedar_types.specs.Environments.RequestEnvs.{Declared, unlinked, unlinked_envs, undeclared_envs, is_partial}
use Rattle.cedar_types.specs.Templates.{Scope, any, equal, within, typed, typed_within, ActionScope, PlainTemplate, action_scope_at}
use Rattle.cedar_types.specs.Templates.{scope_condition, with_rest}
use Rattle.cedar_types.specs.Expressions.Parts.{mentions_slot}
use Rattle.cedar_types.specs.Environments.Linking.{types_above, slot_types, slot_links, names_slot, has_slot, linked_envs, checked_envs}
use Rattle.cedar_types.proofs.Linking.Mentions.{action_scope, principal_slot, resource_slot}
use Rattle.cedar_typing.specs.Composition.{NoSlotIn, SlotsInScopeAlone, own_link, OwnEnvIsChecked}
use Rattle.cedar_typing.specs.Evaluation.Conformance.{IsOneOf}
use Rattle.cedar_typing.specs.TypedExpr.{Source}
use Rattle.cedar_typing.proofs.Basics.Members.{in_left, in_right, in_mapped, in_flat}

-- ---- the slots of a scope

-- the action's constraint has none
pub no_action : (l : Option Loc) (x : SlotId) (a : ActionScope) → mentions_slot x (action_scope_at l a) ≡ false
no_action l x a = action_scope x l a

of_rest : (l : Option Loc) (x : SlotId) (e : Source) (rest : Option Source) → NoSlotIn rest → mentions_slot x (with_rest l e rest) ≡ mentions_slot x e
of_rest l x e None h = refl
of_rest l x e (Some f) h = ap (λ b. mentions_slot x e || b) (h x) ∙ or_none (mentions_slot x e)
  where
    or_none : (b : Bool) → (b || false) ≡ b
    or_none true = refl
    or_none false = refl

-- a template has a slot exactly if the variable's constraint names it, if slots stand in the scope
-- alone
pub has_principal : (t : PlainTemplate) → SlotsInScopeAlone t → has_slot SlotId.Principal t ≡ names_slot t.principal
has_principal t h = of_rest t.place SlotId.Principal (scope_condition t) t.rest h ∙ principal_slot t

pub has_resource : (t : PlainTemplate) → SlotsInScopeAlone t → has_slot SlotId.Resource t ≡ names_slot t.resource
has_resource t h = of_rest t.place SlotId.Resource (scope_condition t) t.rest h ∙ resource_slot t

-- ---- the environments that are checked

-- an environment of the schema with one of the links of each slot
pub is_checked : (s : Schema) (m : ValidationMode) (t : PlainTemplate) (d : DeclaredEnv) (p r : Option Path)
    → IsOneOf d (environments_of s.actions)
    → IsOneOf p (slot_links (has_slot SlotId.Principal t) s.types t.principal d.principal)
    → IsOneOf r (slot_links (has_slot SlotId.Resource t) s.types t.resource d.resource)
    → IsOneOf (Declared d p r) (checked_envs s m t)
is_checked s m t d p r h i j =
    let ps = slot_links (has_slot SlotId.Principal t) s.types t.principal d.principal in
    let rs = slot_links (has_slot SlotId.Resource t) s.types t.resource d.resource in
    in_flat (linked_envs s t) (Declared d p r) (unlinked d) (unlinked_envs s m)
    (in_left (unlinked d) (map unlinked (environments_of s.actions)) (undeclared_envs (is_partial m))
    (in_mapped unlinked d (environments_of s.actions) h))
    (in_flat (λ p. map (λ r. Declared d p r) rs) (Declared d p r) p ps i (in_mapped (λ r. Declared d p r) r rs j))

-- ---- the own environment

-- the own type is among the types of a slot that the constraint names
own_type : (ts : List DeclaredType) (c : Scope) (own : Path) → names_slot c ≡ true → IsOneOf own (slot_types ts c own)
own_type ts any own n = cc
own_type ts (equal r) own n = inl refl
own_type ts (within r) own n = in_right own (types_above ts own) (own ∷ []) (inl refl)
own_type ts (typed p) own n = cc
own_type ts (typed_within p r) own n = in_right own (types_above ts own) (own ∷ []) (inl refl)

pub own_linked : (b : Bool) (ts : List DeclaredType) (c : Scope) (own : Path)
    → (b ≡ true → IsOneOf own (slot_types ts c own)) → IsOneOf (own_link b own) (slot_links b ts c own)
own_linked true ts c own h = in_mapped (λ p. Some p) own (slot_types ts c own) (h refl)
own_linked false ts c own h = inl refl

pub own_env_is_checked : OwnEnvIsChecked
own_env_is_checked s m t h d k =
    is_checked s m t d (own_link (has_slot SlotId.Principal t) d.principal) (own_link (has_slot SlotId.Resource t) d.resource) k
    (own_linked (has_slot SlotId.Principal t) s.types t.principal d.principal
    (λ e. own_type s.types t.principal d.principal (sym (has_principal t h) ∙ e)))
    (own_linked (has_slot SlotId.Resource t) s.types t.resource d.resource
    (λ e. own_type s.types t.resource d.resource (sym (has_resource t h) ∙ e)))
