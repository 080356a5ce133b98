-- The ids of an enumerated type.
use Rattle.std.specs.Prelude.{List, map}
use Rattle.cedar_types.specs.Names.{Text, text_of}
use Rattle.cedar_types.specs.declared.base.schema.choices.EnumChoices.{EnumChoices}
pub mod Same

-- the ids, as they are listed
abbrev pub choices_of : EnumChoices → List Text
choices_of c = map text_of c.listed.items
