use Rattle.std.proofs.Common.{◌≡◌, ℕ, ◌-◌, ◌≤◌, false, All, length, take}
use Rattle.cedar_editor.specs.Diagnostics.{ends_line}
use Rattle.cedar_editor.proofs.diagnostics.first_end.Given as goal

-- no byte so far ends a line
abbrev pub invariant-loop-end : goal.invariant-loop-end
invariant-loop-end l = (l.end ≤ length l.bytes) × All (λ (byte : ℕ). ends_line byte ≡ false) (take l.end l.bytes)

abbrev pub decreases-loop-end : goal.decreases-loop-end
decreases-loop-end l = length l.bytes - l.end
