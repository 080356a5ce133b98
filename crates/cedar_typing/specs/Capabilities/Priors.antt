-- Prior capabilities as the program keeps them: the set that was found last, and a chain of those before.
use Rattle.std.specs.Prelude.{Option, None, Some, option_map}
use Rattle.cedar_types.specs.Capability.{caps}
use Rattle.cedar_typing.specs.Capabilities.{Caps, no_caps, union}
use Rattle.cedar_typing.specs.declared.typecheck.prior.Prior.{Prior, fold-Prior}
use Rattle.cedar_typing.specs.declared.typecheck.prior.Prior.TheOpen.{Prior-F}

-- the capabilities that were known before, if there were any
abbrev pub known_before : Option Caps → Caps
known_before None = no_caps
known_before (Some before) = before

-- the capabilities that were known before, and those that were found last
abbrev pub with_found : Prior-F Caps → Caps
with_found p = union (known_before (option_map (λ b. b.now) p.before)) (caps p.found.now)

abbrev pub known_in : Prior → Caps
known_in = fold-Prior Caps with_found
