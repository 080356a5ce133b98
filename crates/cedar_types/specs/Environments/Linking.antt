-- The environments in which a template is checked: those of the schema, its slots linked in all
-- ways.
use Rattle.std.specs.Prelude.{Bool, true, false, List, [], ◌∷◌, ◌++◌, map, filter, Option, Some, None}
use Rattle.std.specs.List.{flat_map}
use Rattle.cedar_types.specs.declared.base.names.slots.SlotId.{SlotId}
use Rattle.cedar_types.specs.declared.base.types.ValidationMode.{ValidationMode}
use Rattle.cedar_types.specs.Names.{Path}
use Rattle.cedar_types.specs.Schemas.{DeclaredType, Schema, is_among}
use Rattle.cedar_types.specs.Environments.{DeclaredEnv}
use Rattle.cedar_types.specs.Environments.RequestEnvs.{Env, Declared, Undeclared, unlinked_envs}
use Rattle.cedar_types.specs.Expressions.Parts.{mentions_slot}
use Rattle.cedar_types.specs.Templates.{Reference, to_entity, to_slot, Scope, any, equal, within, typed, typed_within, PlainTemplate}
use Rattle.cedar_types.specs.Templates.{condition_of}

abbrev pub type_names : List DeclaredType → List Path
type_names ts = map (λ t. t.name) ts

-- the types that have this one among their descendants
abbrev pub types_above : List DeclaredType → Path → List Path
types_above ts p = type_names (filter (λ t. is_among t.descendants p) ts)

-- the types that a slot may be bound to, by the constraint on its variable and the variable's own
-- type
abbrev pub slot_types : List DeclaredType → Scope → Path → List Path
-- the variable must equal the slot: its own type
slot_types ts (equal r) own = own ∷ []
-- the variable must be in the slot: each type above its own, and its own, twice if it is above
-- itself
slot_types ts (within r) own = types_above ts own ++ (own ∷ [])
slot_types ts (typed_within t r) own = types_above ts own ++ (own ∷ [])
-- the constraint does not name the slot: each declared type
slot_types ts any own = type_names ts
slot_types ts (typed t) own = type_names ts

-- a slot that occurs is linked to each of its types; a slot that does not occur is linked to none
abbrev pub slot_links : Bool → List DeclaredType → Scope → Path → List (Option Path)
slot_links true ts c own = map (λ p. Some p) (slot_types ts c own)
slot_links false ts c own = None ∷ []

-- the environment with each link of its principal slot and each of its resource slot
abbrev pub in_all_ways : DeclaredEnv → List (Option Path) → List (Option Path) → List Env
in_all_ways d ps rs = flat_map (λ p. map (λ r. Declared d p r) rs) ps

abbrev pub is_slot : Reference → Bool
is_slot (to_entity u) = false
is_slot to_slot = true

-- whether the constraint names the slot of its variable
abbrev pub names_slot : Scope → Bool
names_slot any = false
names_slot (equal r) = is_slot r
names_slot (within r) = is_slot r
names_slot (typed t) = false
names_slot (typed_within t r) = is_slot r

-- whether the slot occurs in the scope or in the rest
abbrev pub has_slot : SlotId → PlainTemplate → Bool
has_slot slot t = mentions_slot slot (condition_of t)

-- an environment of the schema, linked; `p` and `r` tell whether the slots occur
abbrev pub linked_by : Bool → Bool → Schema → PlainTemplate → Env → List Env
linked_by p r s t (Declared d _ _) =
    in_all_ways d
    (slot_links p s.types t.principal d.principal)
    (slot_links r s.types t.resource d.resource)
linked_by p r s t Undeclared = Undeclared ∷ []

abbrev pub linked_envs : Schema → PlainTemplate → Env → List Env
linked_envs s t = linked_by (has_slot SlotId.Principal t) (has_slot SlotId.Resource t) s t

-- the environments in which the template is checked, each as often as linking gives it
abbrev pub checked_envs : Schema → ValidationMode → PlainTemplate → List Env
checked_envs s m t = flat_map (linked_envs s t) (unlinked_envs s m)
