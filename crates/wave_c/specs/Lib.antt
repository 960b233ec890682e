pub mod Interface
pub mod Promise
