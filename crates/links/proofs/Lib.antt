pub mod LinkArrays
pub mod LinksRowByRow
pub mod LinksByPlace
pub mod LinksUnderRule
pub mod NextLink
pub mod SameLinks
