pub mod NameExamples
pub mod Rows
pub mod SameDescription
mod Forms
mod FoundSoFar
mod Items
mod MessageExamples
mod OneDump
mod Reporting
pub mod Reported
mod UnderWay
pub mod Words
