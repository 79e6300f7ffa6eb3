pub mod BoardAgents
mod DroppedSince
pub mod SessionLines
pub mod Plain
pub mod Refused
pub mod Runs
pub mod Inputs
pub mod OneLine
pub mod Scripts
mod Examples
mod Faults
mod FirstLine
pub mod RunLemmas
