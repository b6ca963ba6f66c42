pub mod Bounds
pub mod Rounded
pub mod WordLaws
