pub mod WordLaws
pub mod SimpleLaws
pub mod LeadLaws
pub mod PlainLaws
pub mod TokenCut
pub mod ItemLaws
pub mod LineLaws
pub mod WholeLaws
