pub mod OneLine
pub mod Shares
