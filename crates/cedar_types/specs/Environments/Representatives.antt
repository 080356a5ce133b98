-- Actions that the scope of a template admits, and environments of actions that it does not admit.
use Rattle.std.specs.Prelude.{◌≡◌, Bool, true, false, ◌||◌, List, map}
use Rattle.std.specs.List.{list_any}
use Rattle.cedar_types.specs.Names.{Uid, uid_eq}
use Rattle.cedar_types.specs.Schemas.{DeclaredAction, Schema, uid_is_among, descendants_of_action, declares_action}
use Rattle.cedar_types.specs.Environments.RequestEnvs.{Env, Declared, Undeclared}
use Rattle.cedar_types.specs.Templates.{ActionScope, any_action, equal_action, within_actions, PlainTemplate}

-- the scope admits an action: each action, the named one, or one of the named ones or below them
abbrev pub admits : List DeclaredAction → ActionScope → Uid → Bool
admits acts any_action u = true
admits acts (equal_action v) u = uid_eq u v.uid
admits acts (within_actions vs) u =
    list_any (λ v. uid_eq u v || uid_is_among (descendants_of_action acts v) u)
    (map (λ v. v.uid) vs)

-- an environment of a declared action that the scope does not admit
abbrev pub IsLeftOut : Schema → PlainTemplate → Env → Type 0
IsLeftOut s t (Declared d p r) =
    (declares_action s.actions d.action ≡ true) × (admits s.actions t.action d.action ≡ false)
IsLeftOut s t Undeclared = ⊥

-- two environments that the scope's tests of the principal and of the action do not tell apart if
-- it admits neither action: the principal has one type, its slot one link, and the actions are of
-- one type
abbrev pub SamePrincipal : Env → Env → Type 0
SamePrincipal (Declared d p r) (Declared d' p' r') =
    (d.principal ≡ d'.principal) × (p ≡ p') × (d.action.entity_type ≡ d'.action.entity_type)
SamePrincipal e e' = ⊥
