-- Lemmas on counts, blocks, lines, numbers, fields and writes.
pub mod Blocks
pub mod ReadingAhead
pub mod Writing
pub mod Feeds
pub mod Decimals
pub mod FieldTexts
