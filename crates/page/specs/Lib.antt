pub mod Page
pub mod Near
