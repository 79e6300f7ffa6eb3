pub mod EightDigits
pub mod Glyphs
mod LineExamples
pub mod Payloads
pub mod ScriptAgents
mod ScriptExamples
mod StepExamples
pub mod StepLemmas
pub mod ScriptTexts
pub mod TextLines
