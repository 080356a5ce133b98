-- Lists of texts that are equal but for order and repeats.
use Rattle.std.specs.Prelude.{◌≡◌, List, map}
use Rattle.std.specs.List.{list_any}
use Rattle.std.specs.declared.alloc.Global.{Global}
use Rattle.std.specs.declared.rc.RcStr.{RcStr}
use Rattle.cedar_types.specs.Names.{Text, text_of, text_eq}

abbrev pub AreSameTexts : List (RcStr Global) → List (RcStr Global) → Type 0
AreSameTexts xs ys =
    (t : Text) → list_any (text_eq t) (map text_of xs) ≡ list_any (text_eq t) (map text_of ys)
