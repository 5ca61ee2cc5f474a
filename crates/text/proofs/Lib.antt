pub mod DecimalDigits
pub mod BytesBehindAText
