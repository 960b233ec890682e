pub mod Side
pub mod Adding
pub mod Demands
pub mod Promise
