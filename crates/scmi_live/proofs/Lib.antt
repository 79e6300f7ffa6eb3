mod ItemLists
mod MeantExamples
mod TwoItems
mod NameLists
mod Joined
mod Numbers
mod UnderWay
mod NewSession
pub mod Answered
