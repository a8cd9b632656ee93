pub mod BoundTerms
pub mod ComparisonLaws
pub mod Conclusions
pub mod InstanceLaws
pub mod Signs
