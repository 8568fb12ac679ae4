-- Lemmas on journals in order, and on valid worlds.
pub mod Founds
pub mod Orders
pub mod SortedRanges
pub mod LogEntries
pub mod Uniques
pub mod NumberedLists
pub mod ValidWorlds
pub mod WholeHistories
pub mod JournalLaws
