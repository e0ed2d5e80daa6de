pub mod Form
pub mod Tests
pub mod Entries
pub mod Noted
pub mod Verdicts
