pub mod Refusals
pub mod PlanChecks
pub mod Rounding
pub mod Texts
