-- Lemmas on how few packets a frame has, on frames that are closed, on how a match goes on, on its counts and
-- totals, and on its recording.
pub mod Few
pub mod Closing
pub mod Playing
pub mod Events
pub mod Counts
pub mod Written
pub mod LostPackets
pub mod TotalsOfLines
pub mod ScoresOfClients
pub mod ItemsOfTheMap
