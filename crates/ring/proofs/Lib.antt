pub mod OneChain
pub mod OneRing
pub mod WalksInAnyOrder
pub mod EdgeGoesRound
pub mod FoundByWalking
pub mod RingInAnyOrder
pub mod RingIsSound
