pub mod File
pub mod Demands
pub mod Promise
