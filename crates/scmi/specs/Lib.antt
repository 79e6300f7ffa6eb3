pub mod TableRun
pub mod Given
pub mod Program
pub mod Record
pub mod LineProps
pub mod Session
