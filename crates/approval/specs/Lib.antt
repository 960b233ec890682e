pub mod Approval
pub mod Demands
