use Rattle.std.proofs.Common.{sym, ◌∙◌}
use Rattle.cedar_types.specs.Capability.Entries.{both_first}
use Rattle.cedar_types.proofs.types.entries.first_of_either.Goals as goal

pub returns-in-Equal : goal.returns-in-Equal
returns-in-Equal g c =
    both_first c.in-Some-Some.y.now c.in-Some-Some.ensures.cases.0 c.in-Some-Some.ensures'.cases.0 (sym c.cmp.ensures ∙ c.in-Equal.is)
