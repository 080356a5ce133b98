use Rattle.std.proofs.Common.{◌≡◌, map, take}
use Rattle.cedar_types.specs.Types.{ty_of}
use Rattle.cedar_typing.proofs.typecheck.rules.sets.copies.Given as goal

abbrev pub invariant-loop-ty : goal.invariant-loop-ty
invariant-loop-ty l = map ty_of l.all.items ≡ map (λ t. ty_of t.now) (take l.ty-index l.types)
