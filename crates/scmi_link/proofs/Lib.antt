pub mod NoteLemmas
pub mod RingIdentities
pub mod RingSteps
pub mod RingsAgree
pub mod LineLemmas
