pub mod Evaluation
pub mod Attempt
pub mod Packing
pub mod Texts
pub mod Plan
pub mod PlanRows
pub mod PlanValues
pub mod Reserved
