use Rattle.std.proofs.Common.{◌≡◌, length, sym, subst, ap, ◌∙◌}
use Rattle.reply_fan.specs.Replies.{AreLive, replies_to}
use Rattle.frame_phases.proofs.Replying.{slots_live, replies_shown, rewritten-all}
use Rattle.frame_phases.proofs.shows.show_players.Goals as goal

pub write_replies-requires-clause-live : goal.write_replies-requires-clause-live
write_replies-requires-clause-live g c κs within =
    let records = c.args.world.now.records in
    subst (AreLive records) (sym (c.as_slice-live.ensures.value ∙ c.list_slots.ensures.slots)) (slots_live records c.list_slots.ensures.linked.entries)

pub returns-clause-replies : goal.returns-clause-replies
returns-clause-replies g c =
    let records = c.args.world.now.records in
    let same : length c.fill_empty.new.self ≡ length c.write_replies.new.outs = sym (c.write_replies.auto.outs ∙ ap length c.as_mut_slice.ensures.value) in
    rewritten-all c.fill_empty.new.self c.write_replies.new.outs same
    ∙ c.write_replies.ensures
    ∙ ap (replies_to c.args.frame records) (c.as_slice-live.ensures.value ∙ c.list_slots.ensures.slots)
    ∙ replies_shown records c.args.frame c.list_slots.ensures.linked.entries
