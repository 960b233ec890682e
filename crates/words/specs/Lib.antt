pub mod Words
pub mod Demands
