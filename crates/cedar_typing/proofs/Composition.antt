-- Conclusions from the checks of a template in all its environments.
pub mod Links
pub mod SlotTests
pub mod Slots
pub mod OwnBinding
pub mod NeverTrue
pub mod SameLiterals
pub mod SameForms
pub mod SlotFree
pub mod Coverage
pub mod ScopeValues
