pub mod Decided
pub mod KnownIds
pub mod Members
pub mod OneMore
pub mod Mistakes
pub mod Warned
