use Rattle.std.proofs.Common.{[]}
use Rattle.packet_read.specs.declared.arrival.Arrival.{Arrival}
use Rattle.demo_lines.specs.Kinds.{said_with}
use Rattle.demo_lines.proofs.Taking.{said-goes_on, holds_either, fewer_either}
use Rattle.demo_lines.proofs.reading.Reading.take.Goals as goal

-- what is known after a line is the same for each packet, so for this one
some : Arrival
some = record { port = 0; bytes = [] }

pub returns-clause-holds : goal.returns-clause-holds
returns-clause-holds c =
    let goes = said-goes_on c.args.self.now (said_with some c.args.line.now) c.requires.reading c.requires.going (c.requires.placed some) in
    holds_either c.go_on.result c.args.self.now c.go_on.new.self _ (c.go_on.ensures.next some) c.go_on.ensures.unchanged c.requires.reading goes.holds

pub returns-clause-fewer : goal.returns-clause-fewer
returns-clause-fewer c =
    let goes = said-goes_on c.args.self.now (said_with some c.args.line.now) c.requires.reading c.requires.going (c.requires.placed some) in
    fewer_either c.go_on.result _ c.go_on.new.self _ (c.go_on.ensures.next some) goes.fewer
