pub mod Fronts
pub mod Walks
pub mod LineLaws
pub mod Choosing
pub mod Spelling
pub mod FollowLaws
