-- The definitions of items.
pub use Rattle.entity_recs.specs.Kinds
pub use Rattle.entity_recs.specs.Records
pub mod Items
