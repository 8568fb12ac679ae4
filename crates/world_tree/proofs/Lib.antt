-- Lemmas on linked worlds, on walks along the lists, on marks, and on the queries.
pub mod Links
pub mod Chains
pub mod Marks
pub mod Picks
pub mod Rounds
pub mod Found
pub mod Rising
pub mod Kept
pub mod Starts
pub mod LiveRecords
