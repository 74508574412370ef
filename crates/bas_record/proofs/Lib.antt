pub mod WordLaws
pub mod ChannelLaws
pub mod ChoiceLaws
pub mod RestLaws
pub mod PlaceLaws
pub mod UsingLaws
pub mod RecordLaws
