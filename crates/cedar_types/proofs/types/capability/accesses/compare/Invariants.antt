use Rattle.std.proofs.Common.{◌≡◌, length}
use Rattle.cedar_types.specs.Accesses.{spine_at, spine_cmp}
use Rattle.cedar_types.proofs.types.capability.accesses.compare.Given as goal

-- The remaining accesses compare as all accesses do
abbrev pub invariant-loop-one : goal.invariant-loop-one
invariant-loop-one l = spine_cmp (spine_at l.left) (spine_at l.right) ≡ spine_cmp (spine_at l.fn.left) (spine_at l.fn.right)

abbrev pub decreases-loop-one : goal.decreases-loop-one
decreases-loop-one l = length (spine_at l.left).0
