pub mod Steps
pub mod Totals
pub mod Tables
pub mod RowLists
