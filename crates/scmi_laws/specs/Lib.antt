pub mod Reads
pub mod Others
pub mod Causes
pub mod Round
