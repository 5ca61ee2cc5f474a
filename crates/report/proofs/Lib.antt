pub mod OpenBlocksSummed
pub mod ShortReports
pub mod NewRows
