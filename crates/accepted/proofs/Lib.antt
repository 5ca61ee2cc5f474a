pub mod CallsNumbered
pub mod AcceptedBytes
pub mod ChosenWay
pub mod AcceptedCalls
pub mod AfterRemoval
