pub mod Items
pub mod Lines
pub mod Reading
pub mod Format
