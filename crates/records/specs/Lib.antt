pub mod Records
pub mod StoredCalls
