-- The definitions of the slots.
pub mod Ports
pub mod FreeSlots
pub mod Laws
