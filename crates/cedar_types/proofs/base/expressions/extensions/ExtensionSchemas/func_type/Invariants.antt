use Rattle.std.proofs.Common.{◌≡◌, ◌-◌, ◌≤◌, length, Less, Greater}
use Rattle.std.specs.List.{AllWithin}
use Rattle.cedar_types.specs.Names.{path_of, path_cmp}
use Rattle.cedar_types.proofs.base.expressions.extensions.ExtensionSchemas.func_type.Given as goal

-- The functions before `low` are below the name, and those from `high` on are above it
abbrev pub invariant-loop-low : goal.invariant-loop-low
invariant-loop-low g l =
    (l.low ≤ l.high)
    × (l.high ≤ length l.self.functions.items)
    × AllWithin (λ f. path_cmp (path_of f.name) (path_of l.name) ≡ Less) l.self.functions.items 0 l.low
    × AllWithin (λ f. path_cmp (path_of f.name) (path_of l.name) ≡ Greater) l.self.functions.items l.high (length l.self.functions.items)

abbrev pub decreases-loop-low : goal.decreases-loop-low
decreases-loop-low g l = l.high - l.low
