mod Chunks
mod Writes
mod Torn
mod RecordLists
pub mod FramLaws
mod PageLaws
pub mod PageMeaning
