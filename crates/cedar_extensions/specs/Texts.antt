-- The texts that constructors read, and the refusals of all others.
use Rattle.std.specs.Prelude.{Bool, List, [], ◌∷◌, ◌++◌, Option, Some, None, codes, if◌then◌else◌}
use Rattle.cedar_types.specs.Expressions.Tree.{Tree, lit, string}
use Rattle.cedar_types.specs.Expressions.View.{Written}
use Rattle.cedar_types.specs.Names.{Text}
use Rattle.cedar_extensions.specs.declared.checks.Constructor.{Constructor}
use Rattle.cedar_extensions.specs.Texts.Addresses.{is_address_or_range}
use Rattle.cedar_extensions.specs.Texts.Numbers.{is_decimal, is_duration}
use Rattle.cedar_extensions.specs.Texts.Readers.{is_empty}
use Rattle.cedar_extensions.specs.Texts.Times.{is_point_in_time}
pub mod Addresses
pub mod Numbers
pub mod Readers
pub mod Times

-- the name of a constructor in a policy
abbrev pub name_of : Constructor → Text
name_of Constructor.Ip = codes "ip"
name_of Constructor.Decimal = codes "decimal"
name_of Constructor.Datetime = codes "datetime"
name_of Constructor.Duration = codes "duration"

-- whether a constructor makes a value of a text
abbrev pub reads : Constructor → Text → Bool
reads Constructor.Ip s = is_address_or_range s
reads Constructor.Decimal s = is_decimal s
reads Constructor.Datetime s = is_point_in_time s
reads Constructor.Duration s = is_duration s

-- the message that the function of this name cannot read a text
abbrev pub cannot_read : Text → Text → Text
cannot_read name s = (((codes "`" ++ name) ++ codes "` cannot read `") ++ s) ++ codes "`"

-- the reason why a constructor makes no value of a text that it does not read
abbrev pub why_unread : Constructor → Text → Text
why_unread c s = if is_empty s then codes "the text is empty" else cannot_read (name_of c) s

-- the text of an argument that is a string literal
abbrev pub literal_text : Tree Written → Option Text
literal_text (lit w (string s)) = Some s
literal_text e = None

-- the text of the only argument, if it is a string literal
abbrev pub only_text : List (Tree Written) → Option Text
only_text [] = None
only_text (e ∷ []) = literal_text e
only_text (e ∷ f ∷ es) = None

abbrev pub refusal_of_text : Constructor → Option Text → Option Text
refusal_of_text c None = None
refusal_of_text c (Some s) = if reads c s then None else Some (why_unread c s)

-- the message with which a call on these arguments is refused: the only argument is a string literal, and the constructor does
-- not read it
abbrev pub refusal_of_unread : Constructor → List (Tree Written) → Option Text
refusal_of_unread c es = refusal_of_text c (only_text es)
