use Rattle.std.proofs.Common.{◌≡◌, map}
use Rattle.cedar_types.specs.Types.{entries_of, no_attrs}
use Rattle.cedar_types.specs.Expressions.Makers.{with_attrs}
use Rattle.cedar_types.proofs.Attributes.Listed.{shown}
use Rattle.cedar_types.proofs.base.types.Attributes.from_list.Given as goal

-- The remaining attributes, put at their places among those so far, are the whole
abbrev pub invariant-loop-key : goal.invariant-loop-key
invariant-loop-key l =
    with_attrs (map (λ e. (e.0.now, shown e.1)) l.key-iterator.rest.items) (entries_of l.attrs.entries)
    ≡ with_attrs (map (λ e. (e.0.now, shown e.1)) l.fn.listed.items) no_attrs
