pub mod Known
mod MoreTold
mod Told
mod Turns
