-- Sets of entity ids that share their members.
use Rattle.std.specs.Prelude.{◌≡◌, ◌||◌, List, map}
use Rattle.std.specs.declared.alloc.Global.{Global}
use Rattle.std.specs.declared.cmp.Ordering.{Ordering}
use Rattle.std.specs.declared.rc.Rc.{Rc}
use Rattle.cedar_types.specs.Names.{Uid, uid_of, uid_eq}
use Rattle.cedar_types.specs.Names.Comparisons.{entity_uid_cmp}
use Rattle.cedar_types.specs.Schemas.{uid_is_among}
use Rattle.cedar_types.specs.declared.base.names.entities.EntityUID.{EntityUID}

-- an id that sets share
abbrev pub shared_id : Rc EntityUID Global → Uid
shared_id r = uid_of r.value

-- the ids of a set, ascending
abbrev pub ids_of : List (Rc EntityUID Global) → List Uid
ids_of rs = map shared_id rs

-- the order of ids
abbrev pub shared_cmp : Rc EntityUID Global → Rc EntityUID Global → Ordering
shared_cmp a b = entity_uid_cmp a.value b.value

-- the set after adding has the ids from before, and u
abbrev pub AddsId : List Uid → Uid → List Uid → Type 0
AddsId before u after = (v : Uid) → uid_is_among after v ≡ (uid_is_among before v || uid_eq v u)
