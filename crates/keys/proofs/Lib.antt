pub mod FaceKeys
pub mod FourStored
pub mod OneMoreLookedAt
pub mod CheckedByKeys
pub mod RuleByKeys
