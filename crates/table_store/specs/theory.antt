pub mod StoreLaws
pub mod PlaceLaws
pub mod Fronts
