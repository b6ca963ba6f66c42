pub mod Products
pub mod RoundingLaws
