pub mod FirstParts
pub mod FirstMedia
pub mod OneWrite
