-- The examples of slices compute.
pub mod Levels
pub mod Modes
pub mod World
pub mod Premises
pub mod NeededLevels
pub mod NeededParts
pub mod NeededPolicies
pub mod NeededWorlds
pub mod NeededSchemas
pub mod NeededSettings
pub mod Needed
pub mod Promises
pub mod LeftOpen
