pub mod HeaderLemmas
pub mod WordLemmas
pub mod AreaLemmas
pub mod ShortLemmas
pub mod Listed
pub mod MessageTables
pub mod Numbers
