-- Sets of capabilities, as tests of the capabilities that are known.
use Rattle.std.specs.Prelude.{Bool, false, ◌&&◌, ◌||◌}
use Rattle.cedar_types.specs.Capability.{Cap, cap_eq}
pub mod Priors

abbrev pub Caps : Type 0
Caps = Cap → Bool

abbrev pub no_caps : Caps
no_caps = λ q. false

abbrev pub single : Cap → Caps
single c = λ q. cap_eq q c

abbrev pub union : Caps → Caps → Caps
union f g = λ q. f q || g q

abbrev pub intersection : Caps → Caps → Caps
intersection f g = λ q. f q && g q
