pub mod Tails
pub mod Whole
pub mod Judging
pub mod Papers
pub mod OnlyPaper
pub mod Sounding
pub mod LinesOf
pub mod Accepted
