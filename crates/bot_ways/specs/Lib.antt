-- The definitions of edges, walks, least lengths and ways, and of what is written of a plan.
pub use Rattle.arena_geo.specs.Vectors
pub use Rattle.arena_geo.specs.Bounds
pub use Rattle.arena_geo.specs.Boxes
pub use Rattle.box_trace.specs.Traces
pub use Rattle.entity_recs.specs.Bodies
pub use Rattle.arena_map.specs.Maps
pub use Rattle.packet_read.specs.Spelling as PacketSpelling
pub use Rattle.demo_lines.specs.Spelling
pub use Rattle.demo_lines.specs.InTurn
pub use Rattle.demo_lines.specs.Bytes
pub mod Edges
pub mod Walks
pub mod Ways
pub mod Search
pub mod Moves
pub mod PlanTexts
pub mod Rooms
pub mod Things
pub mod Walking
pub mod Laws
pub mod BotMoves
