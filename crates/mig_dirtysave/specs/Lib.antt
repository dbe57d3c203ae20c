mod Common
pub mod Saver
pub mod SaveAnswers
pub mod Unended
pub mod Unread
pub mod Paused
