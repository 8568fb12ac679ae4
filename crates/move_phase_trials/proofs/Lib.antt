-- What the tests of moves know of their worlds, and the players that an action takes.
pub mod TestWorlds
pub mod TakenPlayers
