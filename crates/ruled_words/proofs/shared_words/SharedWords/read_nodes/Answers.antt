use Rattle.std.proofs.Common.{sym, ap, subst, length, bit_or}
use Rattle.ruled_words.specs.Passes.{PassView, fixed_in}
use Rattle.ruled_words.specs.Straight.{AreHeldFor, IsTriedOn}
use Rattle.ruled_words.specs.Sights.{Tally}
use Rattle.ruled_words.proofs.GivingUp.{none_refused_yet, given_up_before, on_err}
use Rattle.ruled_words.proofs.VisitedNodes.{read_at, nodes_are_read, read_none_refused, read_same, read_refusals, kept_after, kept_from_none, nothing_kept}
use Rattle.ruled_words.proofs.shared_words.SharedWords.read_nodes.Goals as goal

pub read_inner-requires-clause-at : goal.read_inner-requires-clause-at
read_inner-requires-clause-at g c κs within = read_at (fixed_in g.A.Action.meaning c.args.self.now) c.args.hand.now c.read_leaves-outer.new.hand c.read_leaves-outer.ensures.view

pub read_inner-requires-clause-held : goal.read_inner-requires-clause-held
read_inner-requires-clause-held g c κs within = subst (λ (q : PassView). AreHeldFor (fixed_in g.A.Action.meaning c.args.self.now) c.args.held.now q.view) (sym c.read_leaves-outer.ensures.view) c.requires.held

pub returns-clause-view : goal.returns-clause-view
returns-clause-view g c = nodes_are_read (fixed_in g.A.Action.meaning c.args.self.now) c.args.hand.now c.read_leaves-outer.new.hand c.read_leaves-outer.ensures.view c.read_inner.new.hand c.in_ok-over.ensures.view

pub returns-clause-tried : goal.returns-clause-tried
returns-clause-tried g c = subst (λ (t : Tally). IsTriedOn t c.read_inner.new.hand.tally) (ap (λ (q : PassView). q.tally) c.read_leaves-outer.ensures.view) c.read_inner.ensures.tried

pub returns-clause-refusals : goal.returns-clause-refusals
returns-clause-refusals g c here =
    c.read_inner.ensures.refusals (read_refusals (fixed_in g.A.Action.meaning c.args.self.now) c.args.hand.now c.read_leaves-outer.new.hand c.read_leaves-outer.ensures.view c.args.refusals.now here)

pub returns-clause-kept : goal.returns-clause-kept
returns-clause-kept g c =
    kept_from_none (bit_or c.read_leaves-outer.result c.in_ok-over.over) c.read_inner.new.by_slot c.read_inner.new.hand.view.others
    (kept_after 0 c.read_leaves-outer.result c.in_ok-over.over c.read_inner.new.by_slot c.read_inner.new.hand.view.others
    (c.in_ok-over.ensures.kept (bit_or 0 c.read_leaves-outer.result) (c.read_leaves-outer.ensures.kept 0 (nothing_kept c.args.by_slot.now c.args.hand.now.view.others c.requires.others))))

pub returns-clause-served : goal.returns-clause-served
returns-clause-served g c at_once =
    none_refused_yet c.args.hand.now c.read_leaves-outer.new.hand c.read_inner.new.hand (read_none_refused (fixed_in g.A.Action.meaning c.args.self.now) c.args.hand.now c.read_leaves-outer.new.hand c.read_leaves-outer.ensures.view) (c.in_ok-over.ensures.served at_once)

pub returns-in_err-over-clause-given_up : goal.returns-in_err-over-clause-given_up
returns-in_err-over-clause-given_up g c =
    on_err c.from_residual.result
    (given_up_before (fixed_in g.A.Action.meaning c.args.self.now) (length c.args.self.now.rooms) c.args.hand.now c.read_leaves-outer.new.hand c.read_inner.new.hand (read_same (fixed_in g.A.Action.meaning c.args.self.now) c.args.hand.now c.read_leaves-outer.new.hand c.read_leaves-outer.ensures.view) c.in_err-over.ensures.given_up)

pub returns-in_err-over-clause-at_once : goal.returns-in_err-over-clause-at_once
returns-in_err-over-clause-at_once g c = on_err c.from_residual.result c.in_err-over.ensures.at_once

pub returns-in_err-over-clause-tried : goal.returns-in_err-over-clause-tried
returns-in_err-over-clause-tried g c = subst (λ (t : Tally). IsTriedOn t c.read_inner.new.hand.tally) (ap (λ (q : PassView). q.tally) c.read_leaves-outer.ensures.view) c.read_inner.ensures.tried

pub returns-in_err-over-clause-refusals : goal.returns-in_err-over-clause-refusals
returns-in_err-over-clause-refusals g c here =
    c.read_inner.ensures.refusals (read_refusals (fixed_in g.A.Action.meaning c.args.self.now) c.args.hand.now c.read_leaves-outer.new.hand c.read_leaves-outer.ensures.view c.args.refusals.now here)
