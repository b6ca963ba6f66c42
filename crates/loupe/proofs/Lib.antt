pub mod Counted
pub mod WordLaws
