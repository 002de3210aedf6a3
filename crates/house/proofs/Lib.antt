pub mod Laws
pub mod Adding
