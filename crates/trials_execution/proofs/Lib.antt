mod Dones
mod Outs
