pub mod Master
pub mod Looked
pub mod Texts
