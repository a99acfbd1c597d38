pub mod keyed
pub mod tracks
