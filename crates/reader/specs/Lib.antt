pub mod Content
pub mod Demands
pub mod Promise
