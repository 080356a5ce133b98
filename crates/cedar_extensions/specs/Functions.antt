-- Cedar's extension functions: the types of their arguments, and the type of their value.
use Rattle.std.specs.Prelude.{Bool, false, List, [], ◌∷◌, ◌++◌, Option, Some, None, codes, map}
use Rattle.std.specs.List.{list_any, find}
use Rattle.std.specs.Option.{is_some}
use Rattle.cedar_types.specs.declared.base.types.BoolType.TheVariants.{AnyBool}
use Rattle.cedar_types.specs.Extensions.Functions.{ExtensionFunction, Refusals}
use Rattle.cedar_types.specs.Names.{Text, Path, text_eq, path_eq}
use Rattle.cedar_types.specs.Types.{Ty, TBool, TLong, TString, TExtension}
use Rattle.cedar_extensions.specs.declared.checks.Constructor.{Constructor}
use Rattle.cedar_extensions.specs.declared.types.ValueType.{ValueType}
use Rattle.cedar_extensions.specs.declared.types.ValueType.TheVariants as type
use Rattle.cedar_extensions.specs.Texts.{name_of}
pub mod Methods

-- ---- types

-- a name without a path
abbrev pub plain_name : Text → Path
plain_name s = record { path = []; basename = s }

-- the name of a type in a schema
abbrev pub type_name : ValueType → Text
type_name type.Bool = codes "Bool"
type_name type.Long = codes "Long"
type_name type.String = codes "String"
type_name type.Ipaddr = codes "ipaddr"
type_name type.Decimal = codes "decimal"
type_name type.Datetime = codes "datetime"
type_name type.Duration = codes "duration"

-- the type of a kind of values
abbrev pub type_of : ValueType → Ty
type_of type.Bool = TBool AnyBool
type_of type.Long = TLong
type_of type.String = TString
type_of type.Ipaddr = TExtension (plain_name (codes "ipaddr"))
type_of type.Decimal = TExtension (plain_name (codes "decimal"))
type_of type.Datetime = TExtension (plain_name (codes "datetime"))
type_of type.Duration = TExtension (plain_name (codes "duration"))

-- the extension types that `<` and `<=` compare, ascending
abbrev pub ordered_types : List Path
ordered_types = plain_name (codes "datetime") ∷ plain_name (codes "duration") ∷ []

-- ---- the table

-- a function: its name, the types of its arguments, and the type of its value
pub record Signature : Type 0 where
  pub name : Text
  pub takes : List ValueType
  pub gives : ValueType

abbrev pub signature : Text → List ValueType → ValueType → Signature
signature n ts t = record { name = n; takes = ts; gives = t }

-- the type of the values that a constructor makes
abbrev pub made_by : Constructor → ValueType
made_by Constructor.Ip = type.Ipaddr
made_by Constructor.Decimal = type.Decimal
made_by Constructor.Datetime = type.Datetime
made_by Constructor.Duration = type.Duration

-- the constructors: each makes an extension value of a text. A policy calls one as a function, for example `ip("1.2.3.4")`
abbrev pub constructors : List Constructor
constructors =
    Constructor.Ip ∷ Constructor.Decimal ∷ Constructor.Datetime ∷ Constructor.Duration ∷ []

abbrev pub constructor_signature : Constructor → Signature
constructor_signature c = signature (name_of c) (type.String ∷ []) (made_by c)

-- the other functions. A policy calls one as a method of its first argument, for example `a.isInRange(b)`
abbrev pub methods : List Signature
methods =
    signature (codes "isIpv4") (type.Ipaddr ∷ []) type.Bool
    ∷ signature (codes "isIpv6") (type.Ipaddr ∷ []) type.Bool
    ∷ signature (codes "isLoopback") (type.Ipaddr ∷ []) type.Bool
    ∷ signature (codes "isMulticast") (type.Ipaddr ∷ []) type.Bool
    ∷ signature (codes "isInRange") (type.Ipaddr ∷ type.Ipaddr ∷ []) type.Bool
    ∷ signature (codes "lessThan") (type.Decimal ∷ type.Decimal ∷ []) type.Bool
    ∷ signature (codes "lessThanOrEqual") (type.Decimal ∷ type.Decimal ∷ []) type.Bool
    ∷ signature (codes "greaterThan") (type.Decimal ∷ type.Decimal ∷ []) type.Bool
    ∷ signature (codes "greaterThanOrEqual") (type.Decimal ∷ type.Decimal ∷ []) type.Bool
    ∷ signature (codes "offset") (type.Datetime ∷ type.Duration ∷ []) type.Datetime
    ∷ signature (codes "durationSince") (type.Datetime ∷ type.Datetime ∷ []) type.Duration
    ∷ signature (codes "toDate") (type.Datetime ∷ []) type.Datetime
    ∷ signature (codes "toTime") (type.Datetime ∷ []) type.Duration
    ∷ signature (codes "toMilliseconds") (type.Duration ∷ []) type.Long
    ∷ signature (codes "toSeconds") (type.Duration ∷ []) type.Long
    ∷ signature (codes "toMinutes") (type.Duration ∷ []) type.Long
    ∷ signature (codes "toHours") (type.Duration ∷ []) type.Long
    ∷ signature (codes "toDays") (type.Duration ∷ []) type.Long
    ∷ []

-- ---- functions by their names

-- the constructor of this name
abbrev pub constructor_named : Text → Option Constructor
constructor_named s = find (λ c. text_eq (name_of c) s) constructors

-- the constructor of the values of this extension type
abbrev pub constructor_of : Path → Option Constructor
constructor_of p = find (λ c. path_eq (plain_name (type_name (made_by c))) p) constructors

-- some method has this name
abbrev pub is_method_named : Text → Bool
is_method_named s = list_any (λ m. text_eq m.name s) methods

-- ---- the entries of a table of functions

-- a function with this check of its arguments, if it has one
abbrev pub checked : Signature → Option Refusals → ExtensionFunction
checked s check = record {
  name = plain_name s.name;
  argument_types = map type_of s.takes;
  is_variadic = false;
  return_type = type_of s.gives;
  check = check;
}

-- the check of each constructor
abbrev pub by_constructor : {A : Type 0} → A → A → A → A → Constructor → A
by_constructor ip decimal datetime duration Constructor.Ip = ip
by_constructor ip decimal datetime duration Constructor.Decimal = decimal
by_constructor ip decimal datetime duration Constructor.Datetime = datetime
by_constructor ip decimal datetime duration Constructor.Duration = duration

-- a method has no check
abbrev pub all_methods : List ExtensionFunction
all_methods = map (λ m. checked m None) methods

-- all functions: the constructors with these checks, and the methods
abbrev pub all_functions : (Constructor → Refusals) → List ExtensionFunction
all_functions check =
    map (λ c. checked (constructor_signature c) (Some (check c))) constructors ++ all_methods
