pub mod QuotedLaws
pub mod ByteLaws
pub mod ElementLaws
pub mod EndLaws
pub mod ReaderLaws
pub mod SequenceLaws
pub mod RepetitionLaws
mod WorkedLaws
