-- Kept types: properties that each type has that typing finds. In Strict no type names several entity types, in Permissive names
-- ascend in each, and in both none is Never; and in each mode none is any entity, if both slots are linked. The demands of the
-- induction over all expressions on such a property stand once (Keeping), and each of the three properties meets them (Modes).
pub mod Types
pub mod Keeping
pub mod Bounds
pub mod Rules
pub mod Eager
pub mod Equality
pub mod Calls
pub mod Membership
pub mod Tags
pub mod Operators
pub mod Chains
pub mod Attributes
pub mod Declarations
pub mod Induction
pub mod Modes
pub mod RecordTypes
pub mod Sets
pub mod Records
