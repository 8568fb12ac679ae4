use Rattle.std.proofs.Common.{◌≡◌, ℕ, ◌+◌, ◌^◌, sym, ap, ◌∙◌, subst, arith, bit_or}
use Rattle.ruled_words.specs.Passes.{PassView, fixed_in}
use Rattle.ruled_words.proofs.BitWalks.{lowest_first}
use Rattle.ruled_words.proofs.LeafWords.{leaves_few, leaves_small}
use Rattle.ruled_words.proofs.VisitedNodes.{leaves_until, reading_start, reading_end, leaf_entered, leaf_read, none_kept_yet, kept_after}
use Rattle.ruled_words.proofs.shared_words.SharedWords.read_leaves.Goals as goal

pub loop-rest-init : goal.loop-rest-init
loop-rest-init g c =
    let same = c.from-rest.ensures in (
      c.requires.own,
      reading_start (fixed_in g.A.Action.meaning c.args.self.now) c.args.hand.now c.args.held.now.leaves c.requires.own.plain c.requires.at c.requires.held.leaves_are
          ∙ ap (λ (n : ℕ). leaves_until (fixed_in g.A.Action.meaning c.args.self.now) c.args.hand.now n c.args.hand.now) (sym c.from-rest.ensures),
      λ seen kept. none_kept_yet seen c.args.by_slot.now c.args.hand.now.view.others kept,
      omega (arith, same),
    )

pub read_under-seen-requires-clause-at : goal.read_under-seen-requires-clause-at
read_under-seen-requires-clause-at g c κs within =
    let few = c.loop-rest.invariant.3 in
    let F = fixed_in g.A.Action.meaning c.args.self.now in
    let range = leaves_small F _ c.args.held.now.leaves c.requires.held.leaves_are in
    let first = lowest_first (2 ^ F.tree.depth) c.loop-rest.rest c.without_bit-rest.result c.lowest_bit-leaf.result (leaves_few F c.requires.own.pass.sound_sight.sound.depth) (omega (arith, few, range)) c.lowest_bit-leaf.ensures.there c.lowest_bit-leaf.ensures.first c.without_bit-rest.ensures.bits in
    leaf_entered F c.args.hand.now c.loop-rest.rest c.without_bit-rest.result c.lowest_bit-leaf.result (c.first_leaf-first.result + c.lowest_bit-leaf.result) first (ap (λ (n : ℕ). n + c.lowest_bit-leaf.result) c.first_leaf-first.ensures.value) c.loop-rest.hand c.loop-rest.invariant.1

pub read_under-seen-requires-clause-slot : goal.read_under-seen-requires-clause-slot
read_under-seen-requires-clause-slot g c κs within = c.requires.held.slot_is ∙ sym (ap (λ (q : PassView). q.view.cmd.slot) c.loop-rest.invariant.1)

pub loop-rest-preserved : goal.loop-rest-preserved
loop-rest-preserved g c =
    let few = c.loop-rest.invariant.3 in
    let F = fixed_in g.A.Action.meaning c.args.self.now in
    let range = leaves_small F _ c.args.held.now.leaves c.requires.held.leaves_are in
    let first = lowest_first (2 ^ F.tree.depth) c.loop-rest.rest c.without_bit-rest.result c.lowest_bit-leaf.result (leaves_few F c.requires.own.pass.sound_sight.sound.depth) (omega (arith, few, range)) c.lowest_bit-leaf.ensures.there c.lowest_bit-leaf.ensures.first c.without_bit-rest.ensures.bits in
    let less = c.without_bit-rest.ensures.less c.lowest_bit-leaf.ensures.there in (
      c.read_under-seen.ensures.own,
      leaf_read F c.args.hand.now c.loop-rest.rest c.without_bit-rest.result c.lowest_bit-leaf.result (c.first_leaf-first.result + c.lowest_bit-leaf.result) first (ap (λ (n : ℕ). n + c.lowest_bit-leaf.result) c.first_leaf-first.ensures.value) c.loop-rest.hand c.loop-rest.invariant.1 c.read_under-seen.new.hand c.read_under-seen.ensures.view,
      λ seen kept. kept_after seen c.loop-rest.seen c.read_under-seen.result c.read_under-seen.new.by_slot c.read_under-seen.new.hand.view.others (c.read_under-seen.ensures.kept (bit_or seen c.loop-rest.seen) (c.loop-rest.invariant.2 seen kept)),
      omega (arith, few, less),
    )

pub loop-rest-smaller : goal.loop-rest-smaller
loop-rest-smaller g c = c.without_bit-rest.ensures.less c.lowest_bit-leaf.ensures.there

pub returns-clause-view : goal.returns-clause-view
returns-clause-view g c =
    reading_end (fixed_in g.A.Action.meaning c.args.self.now) c.args.hand.now c.loop-rest.hand
    (subst (λ (n : ℕ). c.loop-rest.hand ≡ leaves_until (fixed_in g.A.Action.meaning c.args.self.now) c.args.hand.now n c.loop-rest.hand) c.loop-rest-test.false c.loop-rest.invariant.1)

pub returns-clause-kept : goal.returns-clause-kept
returns-clause-kept g c = c.loop-rest.invariant.2
