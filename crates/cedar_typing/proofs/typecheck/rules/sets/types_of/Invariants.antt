use Rattle.std.proofs.Common.{◌≡◌, map, drop}
use Rattle.cedar_types.specs.Types.{ty_of}
use Rattle.cedar_typing.proofs.Rules.Sets.{types_in, after}
use Rattle.cedar_typing.proofs.typecheck.rules.sets.types_of.Given as goal

-- the types so far, and those of the elements that are left
abbrev pub invariant-loop-element : goal.invariant-loop-element
invariant-loop-element l =
    after (map (λ t. ty_of t.now) l.types.items) (types_in (drop l.element-index l.elements)) ≡ types_in l.fn.elements
