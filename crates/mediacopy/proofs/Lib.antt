mod Located
mod Medium
mod Zeros
