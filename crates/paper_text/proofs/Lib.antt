pub mod Puts
pub mod Short
