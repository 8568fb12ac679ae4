use Rattle.std.proofs.Common.{◌≡◌, ℕ, ◌+◌, ◌-◌, List, ◌∷◌, ap, ◌∙◌, sym, subst, arith}
use Rattle.packet_read.specs.declared.block_list.CmdBlock.{CmdBlock}
use Rattle.packet_read.specs.declared.moves_packet.MovesPacket.{MovesPacket}
use Rattle.packet_read.specs.declared.packet.Packet.TheVariants.{Moves}
use Rattle.packet_read.specs.Spelling.{spelling, IsAllowedMoves}
use Rattle.demo_lines.specs.declared.event.Event.TheVariants as events
use Rattle.demo_make.specs.ResentFrames.{last_commands, repeat_of, repeat_from}
use Rattle.demo_make.specs.Remaining.{progress_of, left_of, remaining_events}
use Rattle.demo_make.proofs.Drawing.{commands-are}
use Rattle.demo_make.proofs.Repeats.{steps-allowed}
use Rattle.demo_make.proofs.Steps.{left-again}
use Rattle.demo_make.proofs.generator.Generator.send_again.Goals as goal

abbrev packet_of : ℕ → List CmdBlock → MovesPacket
packet_of seq cmds = record { seq = seq; cmds = cmds }

pub write_packet-requires : goal.write_packet-requires
write_packet-requires c =
    let g = c.args.self.now in
    let frame = g.opened - 1 in
    let port = g.players - g.moves_left + 1 in
    let number : frame + 1 ≡ g.opened = omega (arith, g.moves_of_open, c.requires.some) in
    let cmds : c.last_commands.result ≡ last_commands g.seed g.players frame port =
    c.last_commands.ensures ∙ commands-are g.seed g.players frame port c.draw.result c.draw.ensures.words in
    rw cmds (subst (λ seq. IsAllowedMoves (packet_of seq (last_commands g.seed g.players frame port))) number (steps-allowed g.seed g.players frame port))

pub returns : goal.returns
returns c =
    let g = c.args.self.now in
    let frame = g.opened - 1 in
    let port = g.players - g.moves_left + 1 in
    let number : g.opened ≡ frame + 1 = omega (arith, g.moves_of_open, c.requires.some) in
    let cmds : c.last_commands.result ≡ last_commands g.seed g.players frame port =
    c.last_commands.ensures ∙ commands-are g.seed g.players frame port c.draw.result c.draw.ensures.words in
    let bytes : c.write_packet.result ≡ spelling (Moves (repeat_of g.seed g.players frame port)) =
    c.write_packet.ensures.spelled
    ∙ ap (λ commands. spelling (Moves (packet_of g.opened commands))) cmds
    ∙ ap (λ seq. spelling (Moves (packet_of seq (last_commands g.seed g.players frame port)))) number in
    let whole : remaining_events g ≡ events.From (repeat_from g.seed g.players frame port) ∷ remaining_events c.draw.new.self =
    left-again (progress_of g) c.requires.sending c.requires.no_join c.requires.some g.few_moves c.requires.comes
    ∙ ap (λ p. events.From (repeat_from g.seed g.players frame port) ∷ left_of p) (sym c.draw.ensures.moves) in
    rw bytes (rw c.sender-port.ensures whole)
