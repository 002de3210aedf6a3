pub mod Counting
pub mod Pots
pub mod Fraction
pub mod Remainder
pub mod Stated
pub mod Period
pub mod Claims
pub mod Worked
