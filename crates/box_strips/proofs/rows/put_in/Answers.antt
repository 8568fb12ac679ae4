use Rattle.box_strips.proofs.InRows.{put_there}
use Rattle.box_strips.proofs.rows.put_in.Goals as goal

pub returns-clause-put : goal.returns-clause-put
returns-clause-put c = put_there c.args.words c.args.rows.now c.args.row c.args.place c.with_bit.result c.requires.place c.requires.row c.with_bit.ensures.set
