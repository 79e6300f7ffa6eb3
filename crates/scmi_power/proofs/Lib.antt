pub mod AgentBits
pub mod PowerLaws
