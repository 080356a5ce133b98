mod Lists
mod Answers
mod Passes
pub mod Validations
pub mod SurveyedErrors
pub mod Surveys
pub mod LeftOut
pub mod Surveyed
pub mod Levels
pub mod Slices
pub mod ValidatorPromises
