use Rattle.std.proofs.Common.{◌≡◌, ℕ, length, sym, ap, ◌∙◌, subst, arith, refl, bit_or}
use Rattle.core_steps.specs.Nodes.{inner_nodes}
use Rattle.core_steps.specs.Reads.{region_in}
use Rattle.core_steps.specs.Steps.{visiting}
use Rattle.ruled_words.specs.Passes.{PassView, fixed_in}
use Rattle.ruled_words.specs.Straight.{AreHeldFor}
use Rattle.ruled_words.proofs.BitWalks.{bits_first, bit_below}
use Rattle.ruled_words.proofs.LeafWords.{inner_few}
use Rattle.ruled_words.proofs.GivingUp.{given_up_before, none_refused_at_start, none_refused_yet, on_err}
use Rattle.ruled_words.proofs.TriedTakes.{not_tried, tried_again}
use Rattle.ruled_words.proofs.VisitedNodes.{inner_until, inner_list_is, inner_of_command, inner_small, inner_start, inner_end, inner_same, now_entering, inner_more, none_kept_yet, kept_after}
use Rattle.ruled_words.proofs.shared_words.SharedWords.read_inner.Goals as goal

pub loop-rest-init : goal.loop-rest-init
loop-rest-init g c =
    let F = fixed_in g.A.Action.meaning c.args.self.now in
    let same = c.from-rest.ensures in
    let inner = inner_list_is F (region_in F c.args.hand.now.view.cmd c.args.hand.now.view.own) _ c.args.held.now.inner refl (inner_of_command F c.args.held.now c.args.hand.now.view c.requires.held) in (
      c.requires.own,
      inner_start (fixed_in g.A.Action.meaning c.args.self.now) c.args.hand.now c.args.held.now.inner c.requires.own.plain (c.requires.at ∙ ap (visiting (fixed_in g.A.Action.meaning c.args.self.now) c.args.hand.now.view) inner)
          ∙ ap (λ (n : ℕ). inner_until (fixed_in g.A.Action.meaning c.args.self.now) c.args.hand.now n c.args.hand.now) (sym c.from-rest.ensures),
      λ seen kept. none_kept_yet seen c.args.by_slot.now c.args.hand.now.view.others kept,
      omega (arith, same),
      not_tried c.args.hand.now.tally,
      λ is. is,
      λ at_once. none_refused_at_start c.args.hand.now,
    )

pub visit_inner-requires-clause-inner : goal.visit_inner-requires-clause-inner
visit_inner-requires-clause-inner g c κs within =
    let F = fixed_in g.A.Action.meaning c.args.self.now in
    let few = c.loop-rest.invariant.3 in
    let small = inner_small F _ c.args.held.now.inner c.loop-rest.rest (inner_of_command F c.args.held.now c.args.hand.now.view c.requires.held) few in
    bit_below (inner_nodes F) c.loop-rest.rest c.lowest_bit-node.result small c.lowest_bit-node.ensures.there

pub visit_inner-requires-clause-at : goal.visit_inner-requires-clause-at
visit_inner-requires-clause-at g c κs within =
    let F = fixed_in g.A.Action.meaning c.args.self.now in
    let few = c.loop-rest.invariant.3 in
    let small = inner_small F _ c.args.held.now.inner c.loop-rest.rest (inner_of_command F c.args.held.now c.args.hand.now.view c.requires.held) few in
    let below = bit_below (inner_nodes F) c.loop-rest.rest c.lowest_bit-node.result small c.lowest_bit-node.ensures.there in
    let first = bits_first (inner_nodes F) c.loop-rest.rest c.without_bit-rest.result c.lowest_bit-node.result below (inner_few F c.requires.own.pass.sound_sight.sound.depth) c.lowest_bit-node.ensures.there c.lowest_bit-node.ensures.first c.without_bit-rest.ensures.bits in
    now_entering F c.args.hand.now c.loop-rest.rest c.without_bit-rest.result c.lowest_bit-node.result below first c.loop-rest.hand c.loop-rest.invariant.1

pub visit_inner-requires-clause-held : goal.visit_inner-requires-clause-held
visit_inner-requires-clause-held g c κs within = subst (λ (q : PassView). AreHeldFor (fixed_in g.A.Action.meaning c.args.self.now) c.args.held.now q.view) (sym c.loop-rest.invariant.1) c.requires.held

pub loop-rest-preserved : goal.loop-rest-preserved
loop-rest-preserved g c =
    let F = fixed_in g.A.Action.meaning c.args.self.now in
    let few = c.loop-rest.invariant.3 in
    let small = inner_small F _ c.args.held.now.inner c.loop-rest.rest (inner_of_command F c.args.held.now c.args.hand.now.view c.requires.held) few in
    let below = bit_below (inner_nodes F) c.loop-rest.rest c.lowest_bit-node.result small c.lowest_bit-node.ensures.there in
    let first = bits_first (inner_nodes F) c.loop-rest.rest c.without_bit-rest.result c.lowest_bit-node.result below (inner_few F c.requires.own.pass.sound_sight.sound.depth) c.lowest_bit-node.ensures.there c.lowest_bit-node.ensures.first c.without_bit-rest.ensures.bits in
    let less = c.without_bit-rest.ensures.less c.lowest_bit-node.ensures.there in (
      c.visit_inner.ensures.own,
      inner_more F c.args.hand.now c.loop-rest.rest c.without_bit-rest.result c.lowest_bit-node.result below first c.loop-rest.hand c.loop-rest.invariant.1 c.visit_inner.new.hand c.in_ok-seen.ensures.view,
      λ seen kept. kept_after seen c.loop-rest.seen c.in_ok-seen.field-0 c.visit_inner.new.by_slot c.visit_inner.new.hand.view.others (c.in_ok-seen.ensures.kept (bit_or seen c.loop-rest.seen) (c.loop-rest.invariant.2 seen kept)),
      omega (arith, few, less),
      tried_again _ _ _ c.loop-rest.invariant.4 c.visit_inner.ensures.tried,
      λ is. c.visit_inner.ensures.refusals (c.loop-rest.invariant.5 is),
      λ at_once. none_refused_yet _ _ _ (c.loop-rest.invariant.6 at_once) (c.in_ok-seen.ensures.served at_once),
    )

pub loop-rest-smaller : goal.loop-rest-smaller
loop-rest-smaller g c = c.without_bit-rest.ensures.less c.lowest_bit-node.ensures.there

pub returns-clause-view : goal.returns-clause-view
returns-clause-view g c =
    inner_end (fixed_in g.A.Action.meaning c.args.self.now) c.args.hand.now c.loop-rest.hand
    (subst (λ (n : ℕ). c.loop-rest.hand ≡ inner_until (fixed_in g.A.Action.meaning c.args.self.now) c.args.hand.now n c.loop-rest.hand) c.loop-rest-test.false c.loop-rest.invariant.1)

pub returns-clause-kept : goal.returns-clause-kept
returns-clause-kept g c = c.loop-rest.invariant.2

pub returns-in_err-seen-clause-given_up : goal.returns-in_err-seen-clause-given_up
returns-in_err-seen-clause-given_up g c =
    let F = fixed_in g.A.Action.meaning c.args.self.now in
    let few = c.loop-rest.invariant.3 in
    let small = inner_small F _ c.args.held.now.inner c.loop-rest.rest (inner_of_command F c.args.held.now c.args.hand.now.view c.requires.held) few in
    let below = bit_below (inner_nodes F) c.loop-rest.rest c.lowest_bit-node.result small c.lowest_bit-node.ensures.there in
    let first = bits_first (inner_nodes F) c.loop-rest.rest c.without_bit-rest.result c.lowest_bit-node.result below (inner_few F c.requires.own.pass.sound_sight.sound.depth) c.lowest_bit-node.ensures.there c.lowest_bit-node.ensures.first c.without_bit-rest.ensures.bits in
    on_err c.from_residual.result
    (given_up_before F (length c.args.self.now.rooms) c.args.hand.now c.loop-rest.hand c.visit_inner.new.hand
    (inner_same F c.args.hand.now c.loop-rest.rest c.without_bit-rest.result c.lowest_bit-node.result below first c.loop-rest.hand c.loop-rest.invariant.1 (c.loop-rest.invariant.6 c.in_err-seen.ensures.at_once) c.loop-rest.invariant.4.begun) c.in_err-seen.ensures.given_up)

pub returns-in_err-seen-clause-tried : goal.returns-in_err-seen-clause-tried
returns-in_err-seen-clause-tried g c = tried_again _ _ _ c.loop-rest.invariant.4 c.visit_inner.ensures.tried

pub returns-in_err-seen-clause-refusals : goal.returns-in_err-seen-clause-refusals
returns-in_err-seen-clause-refusals g c is = c.visit_inner.ensures.refusals (c.loop-rest.invariant.5 is)
