use Rattle.std.proofs.Common.{◌≡◌}
use Rattle.client_ports.proofs.Loops.{IsAccepting}
use Rattle.client_ports.proofs.receive.accept_new.Given as goal

-- the new ones so far are accepted, and with those that are left they are all
abbrev pub invariant-loop-step : goal.invariant-loop-step
invariant-loop-step l = record {
  room : l.out.room ≡ l.fn.out.room;
  accepting : IsAccepting l.live.client.last l.frame l.live.slot l.step-index l.steps l.out.lists l.fn.out.lists;
}
