mod AheadLemmas
mod FaultExamples
mod FaultNumbers
mod NextLine
mod Numbers
pub mod FilledExamples
pub mod FirstLine
pub mod Holes
pub mod RestLemmas
