pub mod OneList
pub mod Pools
pub mod Walks
pub mod Linking
pub mod Absences
