pub mod Addresses
pub mod Tables
