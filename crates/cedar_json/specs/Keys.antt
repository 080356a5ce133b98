-- Keys that an object has so far.
use Rattle.std.specs.Prelude.{◌≡◌, Bool, true, map}
use Rattle.std.specs.BTreeSet.{BTreeSet}
use Rattle.std.specs.List.{list_any}
use Rattle.std.specs.declared.alloc.Global.{Global}
use Rattle.std.specs.declared.rc.RcStr.{RcStr}
use Rattle.cedar_types.specs.Names.{Text, text_of, text_eq}

-- one of the keys has this text
abbrev pub is_among : BTreeSet (RcStr Global) → Text → Bool
is_among keys t = list_any (text_eq t) (map text_of keys.keys)

-- no key is lost
abbrev pub KeepsAll : BTreeSet (RcStr Global) → BTreeSet (RcStr Global) → Type 0
KeepsAll before after = (t : Text) → is_among before t ≡ true → is_among after t ≡ true
