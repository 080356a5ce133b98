use Rattle.std.proofs.Common.{◌≡◌, ◌++◌, map}
use Rattle.cedar_types.specs.Types.{ty_of}
use Rattle.cedar_typing.proofs.typecheck.type_env.TypeEnv.bound_of.Given as goal

-- the types so far, and those that are left
abbrev pub invariant-loop-ty : goal.invariant-loop-ty
invariant-loop-ty l = map (λ t. ty_of t.now) l.listed.items ++ map ty_of l.ty-iterator ≡ map ty_of l.fn.types.keys
