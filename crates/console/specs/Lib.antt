pub mod Opened
pub mod Season
