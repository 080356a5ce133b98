use Rattle.std.proofs.Common.{◌≡◌, map, drop}
use Rattle.cedar_types.specs.Types.{ty_of}
use Rattle.cedar_types.specs.Types.Bounds.{fold_lub}
use Rattle.cedar_types.proofs.base.types.subtypes.fold_bound.Given as goal

-- The bound so far and the remaining types have the bound of all
abbrev pub invariant-loop-ty : goal.invariant-loop-ty
invariant-loop-ty l =
    fold_lub l.mode (ty_of l.bound) (map (λ t. ty_of t.now) (drop l.ty-index l.rest))
    ≡ fold_lub l.fn.mode (ty_of l.fn.first) (map (λ t. ty_of t.now) l.rest)
