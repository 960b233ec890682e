pub mod Codes
pub mod Demands
