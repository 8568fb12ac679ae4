use Rattle.std.proofs.Common.{List, ap, ◌∙◌, arith}
use Rattle.world_tree.specs.Nears.{NearView}
use Rattle.core_seats.specs.Shown.{fixed_of}
use Rattle.core_machine.specs.Cores.{SeatView, machine_of, start_seats}
use Rattle.core_machine.proofs.Starting.{start_is, start_core_is}
use Rattle.core_machine.proofs.machine.Core.new.Goals as goal

pub invariant_of-result : goal.invariant_of-result
invariant_of-result g c =
    let F = fixed_of g.A.Action.meaning c.in_ok-rules.rules in
    record {
      core = start_core_is F c.in_ok-rules.rules c.of_start-words.result _ c.args.room.now c.is_lawful.ensures c.is_ruled.ensures c.of_start-words.ensures c.requires.some c.requires.few
          (λ k. let fits = c.type_inv.room k in omega (arith, fits)) c.in_ok-seats.ensures.seats;
      things = c.in_ok-seats.ensures.things;
      near = omega (arith, ap (λ (l : NearView). l.room) c.in_ok-near.ensures);
    }

pub returns-clause-machine : goal.returns-clause-machine
returns-clause-machine g c = λ first others is.
    let F = fixed_of g.A.Action.meaning c.in_ok-rules.rules in
    ap (λ (seats : List SeatView). machine_of F (record { rules = c.in_ok-rules.rules; words = c.of_start-words.result; seats = seats })) (c.in_ok-seats.ensures.seats ∙ ap start_seats is)
    ∙ start_is F c.in_ok-rules.rules c.of_start-words.result first others c.of_start-words.ensures
