pub mod Code
pub mod Message
pub mod State
pub mod Post
