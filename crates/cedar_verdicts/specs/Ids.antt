-- Ids that policies of a set have so far.
use Rattle.std.specs.Prelude.{Bool, map}
use Rattle.std.specs.BTreeMap.{keys}
use Rattle.std.specs.List.{list_any}
use Rattle.cedar_types.specs.Names.{Text, text_of, text_eq}
use Rattle.cedar_verdicts.specs.declared.ids.Ids.{Ids}

-- an id is known to these ids
abbrev pub has_id : Ids → Text → Bool
has_id ids t = list_any (text_eq t) (map text_of (keys ids.starts))
