pub mod Loupe
pub mod LoupeChecks
pub mod PlanLaws
