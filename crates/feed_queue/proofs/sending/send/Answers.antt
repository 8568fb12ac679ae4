use Rattle.std.proofs.Common.{◌≡◌, sym, subst, ap, ◌∙◌}
use Rattle.crossbeam_queue.specs.Fifo.{Pushes, Learns}
use Rattle.crossbeam_queue.specs.Passes.{ruled_capacity}
use Rattle.feed_queue.specs.declared.hand.Hand.{Hand}
use Rattle.feed_queue.specs.Hands.{hand_after_push}
use Rattle.feed_queue.specs.Rule.{IsKept, HasRoomFor}
use Rattle.feed_queue.proofs.Keeping.{sends, has_room, pushed_on}
use Rattle.feed_queue.proofs.sending.send.Goals as goal

pub push_as-requires-clause-rule : goal.push_as-requires-clause-rule
push_as-requires-clause-rule g c =
    let ports = g.N.Ported.ports in
    let a = c.args in
    let r = c.requires in
    let P : Hand → Type 0 = λ v. Pushes (IsKept ports) (ruled_capacity a.line.now) a.pass.now.id v a.place (λ w. w ≡ hand_after_push v a.place)
    × Learns (IsKept ports) a.pass.now.id v (HasRoomFor ports v) in
    subst P (sym r.before) (sends (ruled_capacity a.line.now) ports a.feeder a.place a.pass.now.id r.feeder r.place r.own, has_room ports a.feeder a.place a.pass.now.id r.feeder r.place r.own)

pub returns-clause-after : goal.returns-clause-after
returns-clause-after g c = c.in-Ok.ensures.rule ∙ ap (λ (v : Hand). hand_after_push v c.args.place) c.requires.before
    ∙ pushed_on g.N.Ported.ports c.args.feeder c.args.place c.requires.feeder c.requires.own
