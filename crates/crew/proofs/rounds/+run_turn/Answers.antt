use Rattle.std.proofs.Common.{rules, ◌≤◌, length, sym, arith}
use Rattle.std.proofs.lemmas.List.Elements.{All-head, All-rest, All-same}
use Rattle.crew.specs.Plays.{IsFree}
use Rattle.crew.proofs.rounds.+run_turn.Goals as goal

pub offer-requires-clause-free : goal.offer-requires-clause-free
offer-requires-clause-free g t c =
    let at = c.in-Some-split_first_mut in
    All-head (λ d. IsFree d.seat.me) at.desk.now at.desks.now (All-same (λ d. IsFree d.seat.me) _ _ (sym at.ensures.cases.0) c.requires.free)

pub run_turn-requires : goal.run_turn-requires
run_turn-requires g t c κs within =
    let at = c.in-Some-split_first_mut in
    let some = c.in-Some in
    let free = All-rest (λ d. IsFree d.seat.me) at.desk.now at.desks.now c.args.desks.now at.ensures.cases.0 c.requires.free in
    let may = All-rest g.T.Task.may_run some.item.now some.lent.now c.args.lent.now some.ensures.cases.0 c.requires.may.0 in
    let enough : length some.lent.now ≤ length at.desks.now = omega (arith, at.ensures.cases.1, some.ensures.cases.1, c.requires.enough) in
    (search rules, (search rules, (search rules, (free, ((may, c.requires.may.1), enough)))))

pub take_back-requires : goal.take_back-requires
take_back-requires g t c =
    let some = c.in-Some in
    record {
      given = record {
        item = some.item.now;
        may = All-head g.T.Task.may_run some.item.now some.lent.now (All-same g.T.Task.may_run _ _ (sym some.ensures.cases.0) c.requires.may.0);
        given = c.offer.ensures.given;
      };
    }
