pub mod Entries
pub mod Steps
pub mod Reports
pub mod Runs
pub mod Compared
pub mod Promise
pub mod Standings
pub mod Texts
