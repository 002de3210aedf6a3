pub mod Answered
pub mod RuleLaws
pub mod Steps
