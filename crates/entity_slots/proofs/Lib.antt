pub mod Found
pub mod Changes
