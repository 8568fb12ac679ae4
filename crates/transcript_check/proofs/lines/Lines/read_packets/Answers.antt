use Rattle.std.proofs.Common.{sym, ◌∙◌, subst}
use Rattle.transcript_check.specs.Reading.{InputView, ReadsBeginning}
use Rattle.transcript_check.specs.Packets.{ArePackets}
use Rattle.transcript_check.proofs.PacketsRead.{no_line-missed, no_line-looked, packets-end, bad-missed, bad-looked}
use Rattle.transcript_check.proofs.lines.Lines.read_packets.Goals as goal

pub returns-then-not-branch-clause-missed : goal.returns-then-not-branch-clause-missed
returns-then-not-branch-clause-missed g c =
    no_line-missed g.S.Source c.args.source.now c.packets.source c.look.new.source c.args.self.now.input c.packets.self.input c.look.new.self c.packets.packets c.packets.invariant
    (rw c.if-not-branch.true at c.in_ok-look.ensures.none)

pub returns-then-not-branch-clause-looked : goal.returns-then-not-branch-clause-looked
returns-then-not-branch-clause-looked g c =
    no_line-looked g.S.Source c.args.source.now c.packets.source c.look.new.source c.args.self.now.input c.packets.self.input c.look.new.self c.packets.packets c.packets.invariant
    (rw c.if-not-branch.true at c.in_ok-look.ensures.looked)

pub returns-then-not-is_from-clause-ok : goal.returns-then-not-is_from-clause-ok
returns-then-not-is_from-clause-ok g c =
    packets-end g.S.Source c.args.source.now c.packets.source c.look.new.source c.args.self.now.input c.packets.self.input c.look.new.self c.packets.packets c.packets.invariant
    (rw c.if-not-branch.false at c.in_ok-look.ensures.line) (sym c.is_from.ensures ∙ c.if-not-is_from.true)

pub returns-then-not-take_packet-clause-missed : goal.returns-then-not-take_packet-clause-missed
returns-then-not-take_packet-clause-missed g c =
    bad-missed g.S.Source c.args.source.now c.packets.source c.look.new.source c.args.self.now.input c.packets.self.input c.look.new.self c.packets.packets c.packets.invariant
    (rw c.if-not-branch.false at c.in_ok-look.ensures.line) (sym c.is_from.ensures ∙ c.if-not-is_from.false) (rw c.if-not-take_packet.true at c.take_packet.ensures.none)

pub returns-then-not-take_packet-clause-looked : goal.returns-then-not-take_packet-clause-looked
returns-then-not-take_packet-clause-looked g c =
    subst (λ (i : InputView). ReadsBeginning g.S.Source ArePackets c.args.source.now c.look.new.source c.args.self.now.input i) (sym c.take_packet.ensures.input)
    (bad-looked g.S.Source c.args.source.now c.packets.source c.look.new.source c.args.self.now.input c.packets.self.input c.look.new.self c.packets.packets c.packets.invariant
    (rw c.if-not-branch.false at c.in_ok-look.ensures.line))
