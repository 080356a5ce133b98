-- Extension functions as plain data, the function of a name, and the faults of a table of them.
use Rattle.std.specs.Prelude.{Bool, true, false, not, ◌&&◌, ◌||◌, List, [], ◌∷◌, Option, Some, None, map, option_map, if◌then◌else◌}
use Rattle.std.specs.List.{list_any}
use Rattle.cedar_types.specs.declared.base.expressions.extensions.ExtensionFunctionType.{ExtensionFunctionType}
use Rattle.cedar_types.specs.declared.base.expressions.extensions.ExtensionTableError.{ExtensionTableError}
use Rattle.cedar_types.specs.declared.base.types.BoolType.TheVariants.{AnyBool}
use Rattle.cedar_types.specs.Names.{Text, Path, path_of, path_eq}
use Rattle.cedar_types.specs.Expressions.Tree.{Tree}
use Rattle.cedar_types.specs.Expressions.View.{Written}
use Rattle.cedar_types.specs.Types.{Ty, TBool, TLong, TString, TSet, TExtension, ty_of}

-- the meaning of a check of arguments: the message with which it refuses some arguments, if it
-- refuses them
abbrev pub Refusals : Type 0
Refusals = List (Tree Written) → Option Text

-- an extension function: the types of its arguments, whether the last of them may be repeated any
-- number of times, the type of its answer, and the check of its arguments, if there is one
pub record ExtensionFunction : Type 0 where
  pub name : Path
  pub argument_types : List Ty
  pub is_variadic : Bool
  pub return_type : Ty
  pub check : Option Refusals

-- a function as plain data, where `meaning` gives the meaning of each check
abbrev pub function_of : {C : Type 0} → (C → Refusals) → ExtensionFunctionType C → ExtensionFunction
function_of meaning f = record {
  name = path_of f.name;
  argument_types = map ty_of f.argument_types.items;
  is_variadic = f.is_variadic;
  return_type = ty_of f.return_type;
  check = option_map meaning f.check_arguments;
}

-- the function of this name, if there is one
abbrev pub function_named : Path → List ExtensionFunction → Option ExtensionFunction
function_named n [] = None
function_named n (f ∷ fs) = if path_eq n f.name then Some f else function_named n fs

-- ---- faults

-- whether a type is a Boolean, a long, a string, or an extension value
abbrev pub is_plain_type : Ty → Bool
is_plain_type (TBool AnyBool) = true
is_plain_type TLong = true
is_plain_type TString = true
is_plain_type (TExtension n) = true
is_plain_type t = false

-- whether a type is a plain type, or a set of one
abbrev pub may_be_returned : Ty → Bool
may_be_returned (TSet t) = is_plain_type t
may_be_returned t = is_plain_type t

-- the return type is not one that a function may have
abbrev pub has_bad_return : ExtensionFunction → Bool
has_bad_return f = not (may_be_returned f.return_type)

abbrev pub is_empty_list : {A : Type 0} → List A → Bool
is_empty_list [] = true
is_empty_list (x ∷ xs) = false

-- the last argument type may be repeated, but there is none
abbrev pub lacks_arguments : ExtensionFunction → Bool
lacks_arguments f = f.is_variadic && is_empty_list f.argument_types

-- some name is listed twice
abbrev pub has_two_alike : List ExtensionFunction → Bool
has_two_alike [] = false
has_two_alike (f ∷ fs) = list_any (λ g. path_eq f.name g.name) fs || has_two_alike fs

-- the first fault in this order
abbrev pub table_fault : List ExtensionFunction → Option ExtensionTableError
table_fault fs =
    if list_any has_bad_return fs then Some ExtensionTableError.BadReturnType
    else if list_any lacks_arguments fs then Some ExtensionTableError.VariadicWithoutArguments
    else if has_two_alike fs then Some ExtensionTableError.DuplicateFunction
    else None
