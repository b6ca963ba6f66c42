pub mod Leeway
pub mod LeewayChecks
pub mod PlanLaws
pub mod Tenths
