use Rattle.std.proofs.Common.{◌≡◌, drop}
use Rattle.client_ports.specs.NewMoves.{new_among, numbers_in, last_in}
use Rattle.client_ports.proofs.receive.with_new_moves.Given as goal

-- the last new number is this one or one of those that are left
abbrev pub invariant-loop-step : goal.invariant-loop-step
invariant-loop-step l =
    last_in l.last (numbers_in (new_among l.client.last (drop l.step-index l.steps))) ≡ last_in l.client.last (numbers_in (new_among l.client.last l.steps))
