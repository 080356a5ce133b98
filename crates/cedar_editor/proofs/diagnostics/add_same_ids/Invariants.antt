use Rattle.std.proofs.Common.{◌≡◌, ◌++◌, Global, is_some, map, take}
use Rattle.std.specs.HashMap.{get}
use Rattle.std.specs.List.{flat_map, list_any, range_with_len}
use Rattle.std.specs.declared.rc.RcStr.{RcStr}
use Rattle.cedar_types.specs.Names.{text_eq, text_of}
use Rattle.cedar_editor.specs.Diagnostics.{marks_if_repeated, marks_of}
use Rattle.cedar_editor.specs.Ids.{ids_from}
use Rattle.cedar_editor.proofs.KnownIds.{same_text}
use Rattle.cedar_editor.proofs.diagnostics.add_same_ids.Given as goal

-- the map has the ids of the policies so far, and those of them that have the id of one before are told
abbrev pub invariant-loop-number : goal.invariant-loop-number
invariant-loop-number l = record {
  known : (id : RcStr Global)
      → is_some (get same_text l.lines id) ≡ list_any (text_eq (text_of id)) (take l.number (ids_from 0 l.policies));
  told : map marks_of l.told.items
      ≡ map marks_of l.initial.told.items ++ flat_map (marks_if_repeated l.policies) (range_with_len 0 l.number);
}
