use Rattle.std.proofs.Common.{◌≡◌, false, map, sym, ◌∙◌}
use Rattle.std.specs.Prelude.{is_some}
use Rattle.core_steps.specs.Reads.{player_at}
use Rattle.core_seats.specs.PlayerReads.{player_read_of}
use Rattle.core_machine.proofs.ReadPlayers.{none_dropped}
use Rattle.core_machine.proofs.loading.drop_read.Goals as goal

pub returns-else-is_some : goal.returns-else-is_some
returns-else-is_some c =
    let xs = c.args.others.now.items in
    let none : is_some (player_at (map player_read_of xs) c.args.slot) ≡ false =
    rw (← c.as_slice.ensures.value, ← c.from.ensures, ← c.player_words.ensures) (sym c.is_some.ensures ∙ c.if-is_some.false) in
    sym (none_dropped c.args.slot xs none)
