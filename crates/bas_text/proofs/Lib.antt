pub mod ListLaws
pub mod TrimLaws
pub mod PieceLaws
pub mod ItemLaws
pub mod DataLaws
pub mod JoinLaws
pub mod PlaceLaws
pub mod StringLaws
