pub mod BoardLemmas
pub mod BoardLines
pub mod Digits
mod Examples
pub mod ItemLemmas
pub mod LineLemmas
pub mod NumberForms
pub mod NumberTests
pub mod PlaceLemmas
pub mod Steps
pub mod Utf8
pub mod ValidBoards
