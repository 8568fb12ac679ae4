-- Lemmas on edges, least lengths, ways, and what is written of a plan.
pub mod EdgeParts
pub mod Lengths
pub mod Certificates
pub mod Searching
pub mod WaysBack
pub mod EdgesKnown
pub mod OneWay
pub mod Wishes
pub mod Gathering
pub mod WalkSteps
pub mod MapsBefore
pub mod PlansRead
pub mod BotMoves
pub mod ThingLines
pub mod LineRooms
pub mod FarLengths
pub mod PlanBounds
