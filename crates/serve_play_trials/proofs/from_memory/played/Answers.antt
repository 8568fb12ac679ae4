use Rattle.std.proofs.Common.{◌≡◌, ℕ, ◌-◌, ◌<◌, List, [], length, ap, arith, refl, subst, sym}
use Rattle.std.specs.Prelude.{None, All}
use Rattle.demo_lines.specs.Bytes.{fault}
use Rattle.arena_engine.specs.declared.command.Command.TheVariants.{Play}
use Rattle.arena_engine.specs.Output.{HasRoom}
use Rattle.arena_engine.proofs.Words.{is_play}
use Rattle.serve_play_trials.proofs.from_memory.played.Goals as goal

-- no call is one of none
no_call : (calls : ℕ) → All (λ call. call < calls) []
no_call calls = λ k call inside. absurd (omega arith)

-- the same bytes, and the same room
carried : (bytes left : List ℕ) (room more : ℕ) → left ≡ bytes → more ≡ room → fault bytes ≡ None → HasRoom 1 bytes room → (fault left ≡ None) × HasRoom 1 left more
carried bytes left room more same_bytes same_room whole fits =
    let P : List ℕ → Type 0 = λ b. (fault b ≡ None) × HasRoom 1 b more in
    let Q : ℕ → Type 0 = HasRoom 1 bytes in
    subst P (sym same_bytes) (whole, subst Q (sym same_room) fits)

pub returns : goal.returns
returns g c =
    let P : List ℕ → Type 0 = All (λ call. call < c.new-source.result.calls) in
    (c.serve.ensures.served (Play 1) (is_play _ refl)).surely_complete (subst P (sym c.new-source.ensures.fails) (no_call c.new-source.result.calls))
    (carried c.args.recording.now c.new-source.result.left c.args.room (c.in_ok-sink.sink.room - length c.in_ok-sink.sink.taken) c.new-source.ensures.left
    (omega (arith, c.in_ok-sink.ensures.room, ap length c.in_ok-sink.ensures.taken)) c.requires.whole c.requires.room)
