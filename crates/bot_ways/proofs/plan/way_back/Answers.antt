use Rattle.std.proofs.Common.{ℕ, List, ◌∷◌, ap, ◌∙◌, arith}
use Rattle.bot_ways.specs.Walks.{IsWalk, length_to}
use Rattle.bot_ways.proofs.Lengths.{has_length}
use Rattle.bot_ways.proofs.WaysBack.{if_some, back_first, back_room, back_next, back_start, back_way, back_walk}
use Rattle.bot_ways.proofs.plan.way_back.Goals as goal

pub loop-before-init : goal.loop-before-init
loop-before-init c =
    let target = c.args.target in
    let has = has_length (length_to c.args.least.now target) c.requires.reached in
    back_first c.args.map.now c.args.least.now c.requires.certificate target c.push_first.new.self has.number has.is
    (c.push_first.ensures ∙ ap (λ (xs : List ℕ). target ∷ xs) c.new-way.ensures)

pub push_first-requires-in-Some : goal.push_first-requires-in-Some
push_first-requires-in-Some c =
    let room = back_room c.args.map.now c.args.least.now c.requires.certificate c.args.target c.loop-before.first c.in-Some.before
    c.loop-before.way c.loop-before.invariant c.in-Some.ensures.before in
    omega (arith, room, c.requires.few)

pub loop-before-preserved : goal.loop-before-preserved
loop-before-preserved c =
    back_next c.args.map.now c.args.least.now c.requires.certificate c.args.target c.loop-before.first c.in-Some.before
    c.loop-before.way c.push_first-in-Some.new.self c.loop-before.invariant c.in-Some.ensures c.push_first-in-Some.ensures

pub returns-clause-some : goal.returns-clause-some
returns-clause-some c = λ none. let begins = c.loop-before.invariant.begins in cc

pub returns-clause-way : goal.returns-clause-way
returns-clause-way c =
    let map = c.args.map.now in
    let least = c.args.least.now in
    let cert = c.requires.certificate in
    let back = c.loop-before.invariant in
    let zero_first = back_start map least cert c.args.target c.loop-before.first c.loop-before.way back (c.in_default.ensures {u = tt}) in
    back_way map least cert c.args.target c.loop-before.first c.loop-before.way back zero_first

pub returns-clause-walk : goal.returns-clause-walk
returns-clause-walk c =
    let map = c.args.map.now in
    let least = c.args.least.now in
    let cert = c.requires.certificate in
    let target = c.args.target in
    let back = c.loop-before.invariant in
    let zero_first = back_start map least cert target c.loop-before.first c.loop-before.way back (c.in_default.ensures {u = tt}) in
    if_some (length_to least target) (IsWalk map 0 target c.loop-before.way)
    (λ n h. back_walk map least cert target c.loop-before.first c.loop-before.way n back zero_first h)
