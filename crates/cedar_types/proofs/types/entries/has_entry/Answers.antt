use Rattle.std.proofs.Common.{◌∙◌}
use Rattle.cedar_types.proofs.Entries.Searches.{search_is}
use Rattle.cedar_types.proofs.types.entries.has_entry.Goals as goal

pub returns : goal.returns
returns g c =
    c.is_ok.ensures.value
    ∙ search_is g.met.T.Ord.total c.args.entries.now c.args.entry.now c.binary_search.result c.requires
    c.binary_search.ensures.bound c.binary_search.ensures.position
