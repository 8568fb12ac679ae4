-- The definitions of the order of arrival from two feeders.
pub mod Orders
pub mod Hands
pub mod Rule
pub mod Popped
pub mod Laws
