use Rattle.std.proofs.Common.{◌≡◌, ◌++◌, map}
use Rattle.cedar_types.specs.Names.{path_of}
use Rattle.cedar_types.specs.Types.{ty_of, TExtension}
use Rattle.cedar_typing.specs.Rules.Numbers.{comparable_types}
use Rattle.cedar_typing.specs.Views.{env_at}
use Rattle.cedar_typing.proofs.typecheck.type_env.TypeEnv.comparable_types.Given as goal

-- the types so far, and those of the names that are left
abbrev pub invariant-loop-name : goal.invariant-loop-name
invariant-loop-name l =
    map ty_of l.types.items ++ map TExtension (map path_of l.name-iterator) ≡ comparable_types (env_at l.fn.self)
