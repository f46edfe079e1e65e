mod Answers
pub mod AnswersPut
pub mod CallTests
pub mod Decides
pub mod PerformShows
pub mod Turns
