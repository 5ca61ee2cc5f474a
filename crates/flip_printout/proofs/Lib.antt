pub mod FirstFour
pub mod ReadOffTheFlip
pub mod WaysOutOfFlipPrint
