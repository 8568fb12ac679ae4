use Rattle.std.proofs.Common.{◌≡◌, subst, ap, ◌∙◌, rules}
use Rattle.packet_read.specs.declared.packet.Packet.{Packet}
use Rattle.packet_read.specs.declared.packet.Packet.TheVariants.{Move, Moves}
use Rattle.packet_read.specs.Spelling.{spelling, IsAllowed}
use Rattle.packet_read.specs.Reading.{reading}
use Rattle.packet_read.proofs.Again.{packet_again}
use Rattle.packet_read.proofs.writing.write_packet.Goals as goal

pub returns-in-Move-clause-read_again : goal.returns-in-Move-clause-read_again
returns-in-Move-clause-read_again c =
    let allowed = subst (λ (p : Packet). IsAllowed p) c.in-Move.is c.requires in
    let spelled : c.append_move.new.bytes ≡ spelling (Move c.in-Move.packet) = search rules in
    rw c.in-Move.is (ap reading spelled ∙ packet_again (Move c.in-Move.packet) c.append_move.ensures.fits allowed)

pub returns-in-Moves-clause-read_again : goal.returns-in-Moves-clause-read_again
returns-in-Moves-clause-read_again c =
    let allowed = subst (λ (p : Packet). IsAllowed p) c.in-Moves.is c.requires in
    let spelled : c.append_moves.new.bytes ≡ spelling (Moves c.in-Moves.packet) = search rules in
    rw c.in-Moves.is (ap reading spelled ∙ packet_again (Moves c.in-Moves.packet) c.append_moves.ensures.fits allowed)
