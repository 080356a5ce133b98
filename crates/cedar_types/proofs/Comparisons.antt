-- The derived comparisons of types and of errors, in terms of their plain views.
pub mod Types
pub mod SameTypes
pub mod TypeOrder
pub mod Errors
pub mod ErrorsDecided
