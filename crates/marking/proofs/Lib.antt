pub mod MarkedKeys
pub mod AgreeByKeys
