use Rattle.std.proofs.Common.{◌≡◌, map, take}
use Rattle.cedar_types.specs.Types.{ty_of}
use Rattle.cedar_extensions.specs.Functions.{type_of}
use Rattle.cedar_extensions.proofs.functions.types_of.Given as goal

-- the list has the types so far
abbrev pub invariant-loop-it : goal.invariant-loop-it
invariant-loop-it l = map ty_of l.all.items ≡ map type_of (take l.it-index l.types)
