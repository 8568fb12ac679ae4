-- What the program is asked for, and what it prints on standard error.
pub mod Asked
pub mod Notices
