pub mod Stores
pub mod Areas
pub mod Fram
pub mod Page
pub mod FramBook
pub mod PageBook
pub mod Walk
