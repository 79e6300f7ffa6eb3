mod AreaExamples
pub mod AreaWords
pub mod Before
pub mod Ending
pub mod Faults
pub mod Findings
mod FtraceExamples
pub mod Growing
pub mod Judging
mod Numbers
pub mod Onto
mod OwnExamples
mod RecordExamples
pub mod Progressing
pub mod ReadLines
pub mod Reading
pub mod RecordLines
pub mod Telling
