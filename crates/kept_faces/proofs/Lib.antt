pub mod KeptFacesLookedUp
pub mod SiteOnRim
