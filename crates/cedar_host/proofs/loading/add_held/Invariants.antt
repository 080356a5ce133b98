use Rattle.std.proofs.Common.{map, take}
use Rattle.std.specs.List.{flat_map}
use Rattle.cedar_types.specs.Names.{uid_of}
use Rattle.cedar_types.specs.Schemas.Declarations.{uids_of}
use Rattle.cedar_host.specs.Loading.{AddsNew}
use Rattle.cedar_host.proofs.loading.add_held.Given as goal

-- the ids that the holders so far hold are added
abbrev pub invariant-loop-holder : goal.invariant-loop-holder
invariant-loop-holder g l =
    AddsNew (uids_of l.fn.ids)
    (flat_map (g.E.Entities.answered l.entities) (map uid_of (take l.holder-index l.holders)))
    (uids_of l.ids) (map uid_of l.added.items)
