use Rattle.crew.proofs.desk.Desk.offer.Goals as goal

pub returns : goal.returns
returns g c = record { given = c.hand_over.ensures.given c.args.item.now c.exchange.ensures.put }
