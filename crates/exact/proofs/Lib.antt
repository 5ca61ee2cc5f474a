pub mod WholeParts
pub mod CrossProducts
pub mod RoundedUp
