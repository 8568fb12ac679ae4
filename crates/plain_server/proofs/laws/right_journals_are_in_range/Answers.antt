use Rattle.plain_server.specs.Frames.{state_after_tick, received_in}
use Rattle.plain_server.proofs.Frames.{received_is}
use Rattle.plain_server.proofs.Reports.{right_is_reported}
use Rattle.plain_server.proofs.Small.{numbers_are_small}
use Rattle.plain_server.proofs.laws.right_journals_are_in_range.Goals as goal

pub returns : goal.returns
returns c = λ map frame state arrivals journal is_map is bytes right.
    right_is_reported map (received_in map frame state arrivals) journal is_map (received_is map frame state arrivals is_map is)
    (numbers_are_small map frame (state_after_tick map frame state) arrivals bytes) right
