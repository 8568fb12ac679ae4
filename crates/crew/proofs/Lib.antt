pub mod Keeping
pub mod Slots
pub mod Changing
pub mod Handing
