pub mod Columns
pub mod Moments
pub mod Texts
pub use Rattle.plant_floods.specs.Floods
