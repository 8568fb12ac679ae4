use Rattle.std.proofs.Common.{arith}
use Rattle.arena_actions.specs.MapActions.{map_in}
use Rattle.arena_outcomes.proofs.OnMaps.{inside_by_test}
use Rattle.move_phase_trials.proofs.TakenPlayers.{player_taken}
use Rattle.move_phase_trials.proofs.tests.moving.shooters.is_taken.Goals as goal

pub returns : goal.returns
returns c is =
    let action = c.args.action.now in
    let r = c.args.r.now in
    let inside = inside_by_test (map_in action) c.map.result.now c.bounds.result.now c.body_box.result r c.contains.result c.map.ensures.value c.bounds.ensures.value c.body_box.ensures c.contains.ensures is in
    player_taken action r c.requires.kind c.requires.record (omega (arith, c.requires.score)) (omega (arith, c.requires.seq)) inside
