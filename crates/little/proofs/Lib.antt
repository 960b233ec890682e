pub mod Filling
pub mod Reading
pub mod Comparing
pub mod Tests
pub mod Promise
