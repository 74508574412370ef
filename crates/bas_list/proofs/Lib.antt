pub mod FrontLaws
pub mod EndLaws
pub mod ListLaws
pub mod PrintLaws
