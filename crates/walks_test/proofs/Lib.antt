pub mod LawfulPlans
