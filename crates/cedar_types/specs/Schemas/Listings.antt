-- Lists of the wanted names and ids, each once, in any order.
use Rattle.std.specs.Prelude.{◌≡◌, true, false, ◌||◌, List, ◌∷◌, ◌++◌, Option, Some, None}
use Rattle.std.specs.List.{list_all, flat_map}
use Rattle.cedar_types.specs.Names.{Path, Uid, path_eq, uid_eq}
use Rattle.cedar_types.specs.Schemas.{has_repeat, is_among, uid_is_among, DeclaredType, DeclaredAction, descendants_of}
use Rattle.cedar_types.specs.Schemas.{descendants_of_action, declares_action}

-- the listed types are the wanted ones, each once
pub record ListsTypes (wanted listed : List Path) : Type 0 where
  pub members : (p : Path) → is_among listed p ≡ is_among wanted p
  pub apart : has_repeat path_eq listed ≡ false

-- the listed ids are the wanted ones, each once
pub record ListsIds (wanted listed : List Uid) : Type 0 where
  pub members : (u : Uid) → uid_is_among listed u ≡ uid_is_among wanted u
  pub apart : has_repeat uid_eq listed ≡ false

-- a type and its descendants
abbrev pub types_within : List DeclaredType → Path → List Path
types_within ts p = p ∷ descendants_of ts p

-- actions and their descendants
abbrev pub actions_within : List DeclaredAction → List Uid → List Uid
actions_within acts us = us ++ flat_map (descendants_of_action acts) us

-- the listed ids are those of the actions and their descendants, if all the actions are declared
abbrev pub ListsActions : List DeclaredAction → List Uid → Option (List Uid) → Type 0
ListsActions acts us None = list_all (declares_action acts) us ≡ false
ListsActions acts us (Some listed) =
    (list_all (declares_action acts) us ≡ true) × ListsIds (actions_within acts us) listed

-- the new ids are the old ones and some others
pub record AddsIds (old others new : List Uid) : Type 0 where
  pub members : (u : Uid) → uid_is_among new u ≡ (uid_is_among old u || uid_is_among others u)
