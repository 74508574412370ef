pub mod ShapeLaws
pub mod RemarkLaws
pub mod EndsOfShapes
pub mod TokenLaws
pub mod CutLaws
