pub mod FaultLine
pub mod Filled
pub mod Lines
pub mod Reads
