pub mod HandleValues
pub mod LooseValues
mod Answering
mod Codes
mod Areas
mod Keeping
mod Driving
mod RateChanges
mod Undisturbed
mod Askable
mod Places
mod HistoryLaws
mod WordReplies
pub mod TableLemmas
mod TableExamples
