-- Lemmas on the rules of an action's world, and on the steps of a seat.
pub mod Ranges
pub mod Fixing
pub mod ReadLists
pub mod NearLists
pub mod KeptNear
pub mod SlotBits
pub mod Around
pub mod ThingsLoaded
pub mod SlotLists
pub mod ThingPlaces
pub mod NextThings
pub mod Changing
pub mod Sounding
pub mod SoundRecords
pub mod Steps
