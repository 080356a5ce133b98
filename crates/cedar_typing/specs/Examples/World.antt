-- The setting in which the expressions of the computed examples are typed: a schema and extension
-- functions.
use Rattle.std.specs.Prelude.{true, false, Bool, List, [], ◌∷◌, Option, Some, None, codes}
use Rattle.cedar_types.specs.declared.base.types.BoolType.TheVariants.{AnyBool}
use Rattle.cedar_types.specs.declared.base.types.ValidationMode.{ValidationMode}
use Rattle.cedar_types.specs.declared.base.types.ValidationMode.TheVariants.{Strict, Partial}
use Rattle.cedar_types.specs.Names.{Text, Path, Uid}
use Rattle.cedar_types.specs.Types.{Ty, TBool, TLong, TString, TRecord, TEntity, TExtension, Attrs, no_attrs, attr}
use Rattle.cedar_types.specs.Expressions.Tree.{string, lit}
use Rattle.cedar_types.specs.Extensions.Functions.{ExtensionFunction}
use Rattle.cedar_types.specs.Schemas.{StandardKind, DeclaredType, DeclaredAction, Schema}
use Rattle.cedar_types.specs.Environments.{DeclaredEnv}
use Rattle.cedar_types.specs.Environments.RequestEnvs.{Declared, Undeclared}
use Rattle.cedar_typing.specs.Setting.{Setting}
use Rattle.cedar_typing.specs.TypeEnv.{TypeEnv}
use Rattle.cedar_typing.specs.TypedExpr.{Source}

-- ---- names

-- a name without a path
abbrev pub named : Text → Path
named x = record { path = []; basename = x }

-- `User`, which the schema declares, and `Group`, which it does not
abbrev pub user : Path
user = named (codes "User")

abbrev pub group : Path
group = named (codes "Group")

-- `Robot`, which the schema declares too
abbrev pub robot : Path
robot = named (codes "Robot")

-- three extension types; the functions that make the values of the first two have their names
abbrev pub decimal : Path
decimal = named (codes "decimal")

abbrev pub duration : Path
duration = named (codes "duration")

abbrev pub ip_address : Path
ip_address = named (codes "ipaddr")

-- `Social::decimal`, which names no function
abbrev pub social_decimal : Path
social_decimal = record { path = codes "Social" ∷ []; basename = codes "decimal" }

-- two further functions: a test on two decimals, and the sum of some numbers
abbrev pub less_than : Path
less_than = named (codes "lessThan")

abbrev pub sum : Path
sum = named (codes "sum")

-- `User::"x"`, `Action::"x"`
abbrev pub user_named : Text → Uid
user_named x = record { entity_type = user; eid = x }

abbrev pub an_action_named : Text → Uid
an_action_named x = record { entity_type = named (codes "Action"); eid = x }

-- `User::"alice"`, `User::"bob"`, both in the store, and `User::"gone"`, which is not
abbrev pub alice : Uid
alice = user_named (codes "alice")

abbrev pub bob : Uid
bob = user_named (codes "bob")

abbrev pub gone : Uid
gone = user_named (codes "gone")

-- `Action::"greet"`, which the schema declares, and `Action::"wave"`, which it does not
abbrev pub greet : Uid
greet = an_action_named (codes "greet")

abbrev pub wave : Uid
wave = an_action_named (codes "wave")

-- `Action::"meet"`, above greet, and `Social::Action::"act"`, of another namespace, above both
abbrev pub meet : Uid
meet = an_action_named (codes "meet")

abbrev pub act : Uid
act = record {
  entity_type = record { path = codes "Social" ∷ []; basename = codes "Action" };
  eid = codes "act";
}

-- ---- the schema

abbrev pub a_user : Ty
a_user = TEntity (user ∷ [])

abbrev pub an_action : Ty
an_action = TEntity (greet.entity_type ∷ [])

-- users have an age, and may have a boss, a home with a city, and the mark `vip`
abbrev pub user_attributes : Attrs
user_attributes =
    attr (codes "age") TLong true
    (attr (codes "boss") a_user false
    (attr (codes "home") (TRecord (attr (codes "city") TString true no_attrs) false) false
    (attr (codes "vip") (TBool AnyBool) false no_attrs)))

-- a request comes with an address and a friend, and perhaps with a note
abbrev pub a_context : Ty
a_context =
    TRecord
    (attr (codes "address") (TExtension ip_address) true
    (attr (codes "friend") a_user true
    (attr (codes "note") TString false no_attrs)))
    false

-- a type with these attributes and these tags, and the types that may be in it
abbrev pub standard_type : Path → List Path → Attrs → Option Ty → DeclaredType
standard_type n ns xs t = record { name = n; descendants = ns; kind = StandardKind xs t }

-- users may be in users, and have tags that are strings
abbrev pub declared_user : DeclaredType
declared_user = standard_type user (user ∷ []) user_attributes (Some TString)

-- robots have tags that are numbers, and no attributes
abbrev pub declared_robot : DeclaredType
declared_robot = standard_type robot [] no_attrs (Some TLong)

-- an action of these principals on those resources in this context, which has no descendants
abbrev pub requested : Uid → List Path → List Path → Ty → DeclaredAction
requested u ps rs t = record {
  name = u;
  descendants = [];
  applies_to = Some (record { principals = ps; resources = rs; context = t });
}

-- users greet users
abbrev pub declared_greet : DeclaredAction
declared_greet = requested greet (user ∷ []) (user ∷ []) a_context

-- a request comes with nothing
abbrev pub no_context : Ty
no_context = TRecord no_attrs false

-- an action with descendants, which is not requested itself
abbrev pub declared_group : Uid → List Uid → DeclaredAction
declared_group u us = record {
  name = u;
  descendants = us;
  applies_to = Some (record { principals = []; resources = []; context = no_context });
}

-- a schema with one action
abbrev pub with_action : List DeclaredType → DeclaredAction → Schema
with_action ts a = record { types = ts; actions = a ∷ [] }

abbrev pub sample_schema : Schema
sample_schema = record {
  types = declared_user ∷ declared_robot ∷ [];
  actions =
      declared_greet
      ∷ declared_group meet (greet ∷ [])
      ∷ declared_group act (meet ∷ greet ∷ [])
      ∷ [];
}

-- ---- the extension functions

abbrev pub decimal_type : Ty
decimal_type = TExtension decimal

abbrev pub duration_type : Ty
duration_type = TExtension duration

-- a check that refuses a first argument that is the text literal without a character
abbrev pub refuses_empty : List Source → Option Text
refuses_empty (lit m (string []) ∷ es) = Some (codes "empty")
refuses_empty es = None

-- a function from arguments of these types to this type, variadic or not, without a check
abbrev pub unchecked : Path → List Ty → Bool → Ty → ExtensionFunction
unchecked f ts variadic t = record {
  name = f;
  argument_types = ts;
  is_variadic = variadic;
  return_type = t;
  check = None;
}

-- `decimal` of a text, with the check that refuses an empty text
abbrev pub decimal_function : ExtensionFunction
decimal_function = record (unchecked decimal (TString ∷ []) false decimal_type) {
  check = Some refuses_empty;
}

-- `lessThan` of two decimals
abbrev pub less_than_function : ExtensionFunction
less_than_function = unchecked less_than (decimal_type ∷ decimal_type ∷ []) false (TBool AnyBool)

-- `sum` of one number or more
abbrev pub sum_function : ExtensionFunction
sum_function = unchecked sum (TLong ∷ []) true TLong

-- `duration` of a decimal, and of one number or more that are added to it
abbrev pub duration_function : ExtensionFunction
duration_function = unchecked duration (decimal_type ∷ TLong ∷ []) true duration_type

abbrev pub extension_functions : List ExtensionFunction
extension_functions =
    decimal_function ∷ less_than_function ∷ sum_function ∷ duration_function ∷ []

-- ---- settings

-- users greet users in this context
abbrev pub users_greet : Ty → DeclaredEnv
users_greet t = record { principal = user; action = greet; resource = user; context = t }

-- users greet users; `?resource` is linked to a user, and `?principal` is not linked; of the
-- extension types decimals and durations are compared by `<` and `<=`
abbrev pub sample_env : ValidationMode → TypeEnv
sample_env m = record {
  schema = sample_schema;
  mode = m;
  request_env = Declared (users_greet a_context) None (Some user);
  overloaded_types = decimal ∷ duration ∷ [];
  policy = codes "policy0";
}

-- the type environment with the extension functions
abbrev pub sample : ValidationMode → Setting
sample m = record { env = sample_env m; functions = extension_functions }

-- the setting of an action that the schema does not declare
abbrev pub unknown_action : Setting
unknown_action = record (sample Strict) {
  env = record (sample_env Strict) {
    request_env = Declared (record (users_greet a_context) { action = wave }) None (Some user);
  };
}

-- the setting with another context, and without links of slots
abbrev pub in_context : ValidationMode → Ty → Setting
in_context m t = record (sample m) {
  env = record (sample_env m) { request_env = Declared (users_greet t) None None };
}

-- the environment of undeclared actions, in Partial
abbrev pub hidden : Setting
hidden = record (sample Partial) {
  env = record (sample_env Partial) { request_env = Undeclared };
}
