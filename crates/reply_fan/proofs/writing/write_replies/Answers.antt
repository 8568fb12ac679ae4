use Rattle.std.proofs.Common.{◌≡◌, length, sym, ◌∙◌, arith}
use Rattle.reply_fan.specs.Replies.{reply_to}
use Rattle.reply_fan.proofs.Places.{mapped_at_each}
use Rattle.reply_fan.proofs.writing.write_replies.Goals as goal

pub returns : goal.returns
returns g c =
    let same : length c.for_each_mut.new.s ≡ length c.args.slots.now = c.for_each_mut.auto.s ∙ c.requires.as_many in
    mapped_at_each (λ slot. reply_to c.args.frame c.args.world.now.records slot) c.args.slots.now 0 c.for_each_mut.new.s same
    (λ i e below.
    let call = (c.for_each_mut.ensures i e (omega (arith, below, c.requires.as_many))).1 in
    sym call.left ∙ call.call)
