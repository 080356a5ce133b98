use Rattle.std.proofs.Common.{◌≡◌, ◌||◌, map, drop}
use Rattle.std.specs.List.{list_any}
use Rattle.cedar_types.specs.Names.{Text, text_of, text_eq}
use Rattle.cedar_types.proofs.base.schema.choices.texts_among.Given as goal

-- The known texts and the remaining texts are all texts
abbrev pub invariant-loop-text : goal.invariant-loop-text
invariant-loop-text l =
    (t : Text) → (list_any (text_eq t) (map text_of l.known.keys)
    || list_any (text_eq t) (map text_of (drop l.text-index l.texts)))
    ≡ list_any (text_eq t) (map text_of l.fn.texts)
