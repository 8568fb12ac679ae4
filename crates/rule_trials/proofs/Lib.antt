-- What the tests of ticks know of the worlds that they begin with.
pub mod StartWorlds
