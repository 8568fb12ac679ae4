use Rattle.std.proofs.Common.{◌+◌, ◌∙◌, ap, sym, subst, arith, ℕ, Some}
use Rattle.ruled_words.proofs.StartLinks.{AreLinks, none_linked_yet, link_below, link_more, link_same, all_linked}
use Rattle.ruled_words.proofs.opening.start.links_at_start.Goals as goal
use Rattle.ruled_words.proofs.opening.start.links_at_start.Goals.{in-Some, in_default}

pub loop-slot-init : goal.loop-slot-init
loop-slot-init c = none_linked_yet c.args.world.now

pub with_top_bit-requires-clause-below : goal.with_top_bit-requires-clause-below
with_top_bit-requires-clause-below c =
    let range = c.home_at_start.ensures.in_range c.in-Some.home c.in-Some.is in
    let same = c.from-node.ensures in
    link_below c.args.world.now c.loop-slot.slot c.from-node.result c.loop-slot.links c.loop-slot.invariant (omega (arith, range, same))

pub loop-slot-preserved : goal.loop-slot-preserved
loop-slot-preserved c =
    let w = c.args.world.now in
    elim c.match-home_at_start.branch [
      | in-Some b ↦
          let home = b.in-Some.home in
          let same = b.from-node.ensures in
          let range = c.home_at_start.ensures.in_range home b.in-Some.is in
          subst (AreLinks w (c.loop-slot.slot + 1)) (sym b.links-is)
          (link_more w c.loop-slot.slot b.from-node.result b.with_top_bit.result c.loop-slot.links c.loop-slot.invariant (omega (arith, range, same))
          (ap (λ (n : ℕ). Some n) same ∙ sym b.in-Some.is ∙ c.home_at_start.ensures.home) b.with_top_bit.ensures)
      | in_default b ↦
          subst (AreLinks w (c.loop-slot.slot + 1)) (sym b.links-is)
          (link_same w c.loop-slot.slot c.loop-slot.links c.loop-slot.invariant (sym b.in_default.is ∙ c.home_at_start.ensures.home))
    ]

pub returns-clause-words : goal.returns-clause-words
returns-clause-words c = all_linked c.args.world.now c.loop-slot.slot c.loop-slot.links c.loop-slot.invariant (omega (arith, c.loop-slot.auto.slot-end, c.loop-slot-test.false))
