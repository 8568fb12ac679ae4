-- The definitions that the contracts of a server's state cite.
pub use Rattle.arena_map.specs.Maps
pub use Rattle.client_ports.specs.States
pub use Rattle.client_ports.specs.Lists
pub use Rattle.client_ports.specs.Receiving
pub use Rattle.client_ports.specs.Finishing
pub use Rattle.plain_server.specs.RecordsById
pub use Rattle.plain_server.specs.Frames
