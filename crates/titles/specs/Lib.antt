pub mod Titles
pub mod Lists
pub mod Writing
