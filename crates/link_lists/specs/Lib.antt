pub mod Pool
pub mod Links
