use Rattle.std.proofs.Common.{◌≤◌, ◌-◌, length, ap, arith, refl}
use Rattle.demo_make.specs.GeneratedFrames.{generated_text}
use Rattle.arena_engine.specs.declared.command.Command.TheVariants.{Make}
use Rattle.serve_play_trials.proofs.Making.{in_range, is_make, ended_well}
use Rattle.serve_play_trials.proofs.known.two_players_made.Goals as goal

pub returns : goal.returns
returns g c =
    let made = (c.serve.ensures.served (Make 7 2 1) (is_make _ refl)).is in
    let fits : length (generated_text 7 2 1) ≤ c.in_ok-sink.sink.room - length c.in_ok-sink.sink.taken =
    omega (arith, c.generated_texts_are_bounded.ensures 7 2 1 in_range, c.in_ok-sink.ensures.room, ap length c.in_ok-sink.ensures.taken) in
    ended_well c.serve.result.status made.status (made.sure fits)
