mod DetailExamples
pub mod EscapeLemmas
mod Heads
mod Histories
mod Inputs
mod Numbers
mod RateExamples
mod Signs
pub mod SoFar
mod Turned
