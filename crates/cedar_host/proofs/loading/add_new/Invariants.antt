use Rattle.std.proofs.Common.{map, take}
use Rattle.cedar_types.specs.Names.{uid_of}
use Rattle.cedar_types.specs.Schemas.Declarations.{uids_of}
use Rattle.cedar_host.specs.Distinct.{AreDistinct}
use Rattle.cedar_host.specs.Loading.{AddsNew, AreNew}
use Rattle.cedar_host.proofs.loading.add_new.Given as goal

-- the ids so far are added, and the answered ones are new, each once
abbrev pub invariant-loop-id : goal.invariant-loop-id
invariant-loop-id l = record {
  adds : AddsNew (uids_of l.fn.ids) (map uid_of (take l.id-index l.these)) (uids_of l.ids)
      (map uid_of l.added.items);
  fresh : AreNew (map uid_of l.added.items) (uids_of l.fn.ids);
  distinct : AreDistinct (map uid_of l.added.items);
}
