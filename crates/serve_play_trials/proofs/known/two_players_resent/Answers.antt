use Rattle.std.proofs.Common.{◌≤◌, ◌-◌, length, ap, arith, refl}
use Rattle.demo_make.specs.ResentFrames.{resent_text}
use Rattle.arena_engine.specs.declared.command.Command.TheVariants.{Resend}
use Rattle.serve_play_trials.proofs.Making.{in_range, is_resend, ended_well}
use Rattle.serve_play_trials.proofs.known.two_players_resent.Goals as goal

pub returns : goal.returns
returns g c =
    let resent = (c.serve.ensures.served (Resend 7 2 1) (is_resend _ refl)).is in
    let fits : length (resent_text 7 2 1) ≤ c.in_ok-sink.sink.room - length c.in_ok-sink.sink.taken =
    omega (arith, c.resent_texts_are_bounded.ensures 7 2 1 in_range, c.in_ok-sink.ensures.room, ap length c.in_ok-sink.ensures.taken) in
    ended_well c.serve.result.status resent.status (resent.sure fits)
