-- Values of a program, as the values of the theorems.
use Rattle.std.specs.Prelude.{List, [], ◌∷◌, map}
use Rattle.std.specs.BTreeMap.{BTreeMap}
use Rattle.std.specs.declared.alloc.Global.{Global}
use Rattle.std.specs.declared.rc.RcStr.{RcStr}
use Rattle.cedar_types.specs.Names.{text_of, path_of, uid_of}
use Rattle.cedar_types.specs.Values as plain
use Rattle.cedar_types.specs.Values.{VBool, VLong, VString, VEntity, VSet, VRecord, VExtension, Values, no_values, more_values}
use Rattle.cedar_types.specs.Values.{Entries, no_entries, more_entries}
use Rattle.cedar_conformance.specs.declared.values.Value.{Value, fold-Value}
use Rattle.cedar_conformance.specs.declared.values.Value.TheOpen as layer
use Rattle.cedar_conformance.specs.declared.values.Value.TheOpen.{Value-F}

-- a list of members as the members of a set
abbrev pub members_of : List plain.Value → Values
members_of [] = no_values
members_of (v ∷ vs) = more_values v (members_of vs)

-- values by key as entries
abbrev pub keyed_of : List (RcStr Global × plain.Value) → Entries
keyed_of [] = no_entries
keyed_of (e ∷ es) = more_entries (text_of e.0) e.1 (keyed_of es)

-- one layer of a value, over the values of its parts
abbrev pub value_step : Value-F plain.Value → plain.Value
value_step (layer.Bool b) = VBool b
value_step (layer.Long n) = VLong n
value_step (layer.String t) = VString (text_of t)
value_step (layer.EntityUID u) = VEntity (uid_of u)
value_step (layer.Set vs) = VSet (members_of vs.items)
value_step (layer.Record es) = VRecord (keyed_of es.entries)
value_step (layer.Extension n t) = VExtension (path_of n) (text_of t)

-- the plain value of a value
abbrev pub value_of : Value → plain.Value
value_of = fold-Value plain.Value value_step

-- the members of a set
abbrev pub values_of : List Value → Values
values_of vs = members_of (map value_of vs)

-- the entries of a list of values by key
abbrev pub entries_of : List (RcStr Global × Value) → Entries
entries_of es = keyed_of (map (λ e. (e.0, value_of e.1)) es)

-- the entries of a record
abbrev pub record_of : BTreeMap (RcStr Global) Value → Entries
record_of r = entries_of r.entries
