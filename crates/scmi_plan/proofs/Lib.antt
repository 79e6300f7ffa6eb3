pub mod FaultLemmas
pub mod Numbers
