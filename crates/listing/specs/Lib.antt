pub mod Performed
pub mod Outcomes
