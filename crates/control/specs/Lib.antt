pub mod Refusals
pub mod Separate
pub mod Span
pub mod Texts
pub mod Worked
