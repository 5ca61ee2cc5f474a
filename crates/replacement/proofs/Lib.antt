pub mod CarriedOut
pub mod MarkOfWay
pub mod WayRead
