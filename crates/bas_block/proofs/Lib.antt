pub mod FileLaws
pub mod NestingLaws
