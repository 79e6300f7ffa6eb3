pub mod Reading
pub mod BaseReply
pub mod PowerReply
pub mod ClockReply
pub mod Reply
pub mod Answer
pub mod Notice
pub mod Agent
