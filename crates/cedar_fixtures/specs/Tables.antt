-- The functions of the tables by which rows and cases are typed.
use Rattle.std.specs.Prelude.{true, false, [], ◌∷◌, Some, None, codes}
use Rattle.cedar_types.specs.declared.base.types.BoolType.TheVariants.{AnyBool}
use Rattle.cedar_types.specs.Extensions.Functions.{ExtensionFunction, Refusals}
use Rattle.cedar_types.specs.Names.{Text, Path}
use Rattle.cedar_types.specs.Types.{Ty, TBool, TLong, TString, TExtension}

-- a name without a path
abbrev pub named : Text → Path
named n = record { path = []; basename = n }

-- the extension type of addresses
abbrev pub address : Ty
address = TExtension (named (codes "ipaddr"))

-- the function from a String to an address, with this check
abbrev pub ip : Refusals → ExtensionFunction
ip check = record {
  name = named (codes "ip");
  argument_types = TString ∷ [];
  is_variadic = false;
  return_type = address;
  check = Some check;
}

-- the function from two addresses to a Bool
abbrev pub is_in_range : ExtensionFunction
is_in_range = record {
  name = named (codes "isInRange");
  argument_types = address ∷ address ∷ [];
  is_variadic = false;
  return_type = TBool AnyBool;
  check = None;
}

-- the function of one Long or more
abbrev pub sum : ExtensionFunction
sum = record {
  name = named (codes "sum");
  argument_types = TLong ∷ [];
  is_variadic = true;
  return_type = TLong;
  check = None;
}
