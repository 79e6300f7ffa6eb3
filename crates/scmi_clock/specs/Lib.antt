pub mod Rounding
pub mod SetFlags
pub mod ClockReply
pub mod ClockTable
pub mod ClockProtocol
