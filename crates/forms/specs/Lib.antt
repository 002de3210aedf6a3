pub mod Form
pub mod Place
pub mod Lines
pub mod Lawful
