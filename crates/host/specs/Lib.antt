pub mod Bytes
pub mod Refusals
pub mod Plans
pub mod Entries
