pub mod PrintoutByAnswer
pub mod ReadOffTheCalls
pub mod WaysOutOfPrint
