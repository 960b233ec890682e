pub mod Checks
pub mod Files
pub mod Demands
pub mod Promise
