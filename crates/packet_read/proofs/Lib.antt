pub mod Fields
pub mod Blocks
pub mod Loops
pub mod ManyMoves
pub mod Again
pub mod Rules
pub mod Numbers
