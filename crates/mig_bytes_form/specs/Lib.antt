pub mod Tests
pub mod Form
