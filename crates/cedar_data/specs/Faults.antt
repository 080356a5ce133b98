-- Faults: the mistakes that were found in a text.
use Rattle.std.specs.Prelude.{Bool, List}
use Rattle.cedar_conformance.specs.Answers.{lists_none}
use Rattle.cedar_data.specs.declared.collected.Faults.{Faults}
use Rattle.cedar_data.specs.declared.faults.DataFault.{DataFault}

-- the mistakes that are listed
abbrev pub listed_in : Faults → List DataFault
listed_in f = f.listed.items

-- there are more mistakes than are listed
abbrev pub has_more_in : Faults → Bool
has_more_in f = f.has_more

-- no mistake was found
abbrev pub has_none : Faults → Bool
has_none f = lists_none (listed_in f)
