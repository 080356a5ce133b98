pub mod Decimals
pub mod Fits
pub mod Keys
pub mod Ranges
pub mod ReadEscapes
pub mod ReadItems
pub mod Says
pub mod Unescaped
