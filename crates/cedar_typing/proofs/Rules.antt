-- The rules form by form, as the program follows them, and laws of all of them.
pub mod Sequence
pub mod Operands
pub mod OneOperand
pub mod TwoOperands
pub mod OperandLists
pub mod TypesGiven
pub mod Chains
pub mod Numbers
pub mod Membership
pub mod Sets
pub mod Records
pub mod FieldsInOrder
pub mod Calls
pub mod CallErrors
pub mod Laws
pub mod SameTables
