pub mod Crossfade
pub mod Laws
pub mod SumLaws
pub mod Sums
