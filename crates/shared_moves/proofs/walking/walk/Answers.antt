use Rattle.std.proofs.Common.{ℕ, List, sym, ap, ◌∙◌, subst}
use Rattle.entity_recs.specs.Commands.{Command, command_of}
use Rattle.core_steps.specs.Nodes.{Fixed}
use Rattle.ruled_words.specs.Passes.{PassView, fixed_in}
use Rattle.core_steps.specs.Reads.{region_in}
use Rattle.ruled_words.specs.Straight.{AreHeldFor, HasKept}
use Rattle.ruled_words.proofs.GivingUp.{none_refused_yet, on_err}
use Rattle.shared_moves.specs.Points.{MomentView}
use Rattle.shared_moves.proofs.Runs.{some_entry, held_point, holds_leaves, begun_in_hand, none_begun, refusals_begun, first_visit, held_again, held_read, has_read, none_while_read, read_refusals, known_point, cmd_again, in_hand_known, again_still, committed_point, refusals_again, refusals_end, in_hand_again, in_hand_read, has_left, none_end, has_moved}
use Rattle.shared_moves.proofs.walking.walk.Goals as goal

pub held_for-held-requires-clause-region_is : goal.held_for-held-requires-clause-region_is
held_for-held-requires-clause-region_is g c κs within =
    c.region_of-region.ensures ∙ ap (λ (p : PassView). region_in (fixed_in g.A.Action.meaning c.args.words.now) p.view.cmd p.view.own) c.own_words-own.ensures.view

pub take_leaves-requires-clause-held : goal.take_leaves-requires-clause-held
take_leaves-requires-clause-held g c κs within =
    subst (λ (p : PassView). AreHeldFor (fixed_in g.A.Action.meaning c.args.words.now) c.held_for-held.result p.view) (sym c.own_words-own.ensures.view) c.held_for-held.ensures

pub at_leaves-requires-clause-at : goal.at_leaves-requires-clause-at
at_leaves-requires-clause-at g c =
    let F : Fixed = fixed_in g.A.Action.meaning c.args.words.now in
    let cmd : Command = command_of c.args.cmd.now in
    held_point F cmd c.own_words-own.result c.args.hand.now c.own_words-own.new.hand c.take_leaves.new.hand c.own_words-own.ensures.view c.in_ok-take_leaves.ensures.view

pub returns-in_err-take_leaves-clause-left : goal.returns-in_err-take_leaves-clause-left
returns-in_err-take_leaves-clause-left g c =
    let F : Fixed = fixed_in g.A.Action.meaning c.args.words.now in
    let cmd : Command = command_of c.args.cmd.now in
    on_err _ (has_left F _ cmd c.args.hand.now c.own_words-own.new.hand c.take_leaves.new.hand (begun_in_hand F cmd c.own_words-own.result c.args.hand.now c.own_words-own.new.hand c.take_leaves.new.hand c.own_words-own.ensures.view) c.in_err-take_leaves.ensures.given_up)

pub read_nodes-requires-clause-at : goal.read_nodes-requires-clause-at
read_nodes-requires-clause-at g c κs within =
    first_visit (fixed_in g.A.Action.meaning c.args.words.now) c.own_again-again.result c.take_leaves.new.hand c.own_again-again.new.hand c.own_again-again.ensures.view

pub read_nodes-requires-clause-held : goal.read_nodes-requires-clause-held
read_nodes-requires-clause-held g c κs within =
    let F : Fixed = fixed_in g.A.Action.meaning c.args.words.now in
    let cmd : Command = command_of c.args.cmd.now in
    let holds = holds_leaves F cmd c.own_words-own.result c.args.hand.now c.own_words-own.new.hand c.take_leaves.new.hand c.own_words-own.ensures.view c.in_ok-take_leaves.ensures.view c.in_ok-take_leaves.ensures.tried in
    held_again F cmd c.own_words-own.result c.own_again-again.result _ c.args.hand.now c.take_leaves.new.hand c.own_again-again.new.hand holds c.own_again-again.ensures.view c.held_for-held.result c.held_for-held.ensures

pub returns-in_err-seen-clause-left : goal.returns-in_err-seen-clause-left
returns-in_err-seen-clause-left g c =
    let F : Fixed = fixed_in g.A.Action.meaning c.args.words.now in
    let cmd : Command = command_of c.args.cmd.now in
    let holds = holds_leaves F cmd c.own_words-own.result c.args.hand.now c.own_words-own.new.hand c.take_leaves.new.hand c.own_words-own.ensures.view c.in_ok-take_leaves.ensures.view c.in_ok-take_leaves.ensures.tried in
    let none_at_leaves = none_refused_yet c.args.hand.now c.own_words-own.new.hand c.take_leaves.new.hand (none_begun F cmd c.own_words-own.result c.args.hand.now c.own_words-own.new.hand c.take_leaves.new.hand c.own_words-own.ensures.view) (c.in_ok-take_leaves.ensures.served c.in_err-seen.ensures.at_once) in
    on_err _ (has_left F _ cmd c.args.hand.now c.own_again-again.new.hand c.read_nodes.new.hand (in_hand_again F cmd c.own_words-own.result c.own_again-again.result _ c.args.hand.now c.take_leaves.new.hand c.own_again-again.new.hand holds c.own_again-again.ensures.view none_at_leaves) c.in_err-seen.ensures.given_up)

pub returns-in_err-seen-clause-refusals : goal.returns-in_err-seen-clause-refusals
returns-in_err-seen-clause-refusals g c are =
    let F : Fixed = fixed_in g.A.Action.meaning c.args.words.now in
    let cmd : Command = command_of c.args.cmd.now in
    let holds = holds_leaves F cmd c.own_words-own.result c.args.hand.now c.own_words-own.new.hand c.take_leaves.new.hand c.own_words-own.ensures.view c.in_ok-take_leaves.ensures.view c.in_ok-take_leaves.ensures.tried in
    let noted = refusals_again F cmd c.own_words-own.result c.own_again-again.result _ c.args.hand.now c.take_leaves.new.hand c.own_again-again.new.hand holds c.own_again-again.ensures.view _ (c.take_leaves.ensures.refusals (refusals_begun F cmd c.own_words-own.result c.args.hand.now c.own_words-own.new.hand c.take_leaves.new.hand c.own_words-own.ensures.view _ are)) in
    c.read_nodes.ensures.refusals noted

pub read_effect-effect-requires-clause-region_is : goal.read_effect-effect-requires-clause-region_is
read_effect-effect-requires-clause-region_is g c κs within =
    let F : Fixed = fixed_in g.A.Action.meaning c.args.words.now in
    c.region_of-region.ensures
    ∙ sym (ap (λ (p : PassView). region_in F p.view.cmd p.view.own) c.in_ok-seen.ensures.view
    ∙ ap (λ (p : PassView). region_in F p.view.cmd p.view.own) c.own_again-again.ensures.view
    ∙ ap (λ (p : PassView). region_in F p.view.cmd p.view.own) c.in_ok-take_leaves.ensures.view)

pub read_effect-effect-requires-clause-cmd_is : goal.read_effect-effect-requires-clause-cmd_is
read_effect-effect-requires-clause-cmd_is g c κs within =
    let F : Fixed = fixed_in g.A.Action.meaning c.args.words.now in
    let cmd : Command = command_of c.args.cmd.now in
    let holds = holds_leaves F cmd c.own_words-own.result c.args.hand.now c.own_words-own.new.hand c.take_leaves.new.hand c.own_words-own.ensures.view c.in_ok-take_leaves.ensures.view c.in_ok-take_leaves.ensures.tried in
    sym (ap (λ (p : PassView). p.view.cmd) c.in_ok-seen.ensures.view ∙ cmd_again F cmd c.own_words-own.result c.own_again-again.result _ c.args.hand.now c.take_leaves.new.hand c.own_again-again.new.hand holds c.own_again-again.ensures.view)

pub read_effect-effect-requires-clause-again_is : goal.read_effect-effect-requires-clause-again_is
read_effect-effect-requires-clause-again_is g c κs within =
    sym (ap (λ (p : PassView). p.view.again) c.in_ok-seen.ensures.view ∙ ap (λ (p : PassView). p.view.again) c.own_again-again.ensures.view)

pub read_effect-effect-requires-clause-kept : goal.read_effect-effect-requires-clause-kept
read_effect-effect-requires-clause-kept g c κs within =
    subst (λ (by_slot : List (List ℕ)). HasKept c.in_ok-seen.seen by_slot c.read_nodes.new.hand.view.others) (sym c.deref.ensures) c.in_ok-seen.ensures.kept

pub at_effect-requires-clause-at : goal.at_effect-requires-clause-at
at_effect-requires-clause-at g c κs within =
    let F : Fixed = fixed_in g.A.Action.meaning c.args.words.now in
    known_point F c.own_again-again.new.hand c.read_nodes.new.hand c.read_effect-effect.new.hand c.in_ok-seen.ensures.view c.read_effect-effect.ensures.view c.read_effect-effect.result

pub at_effect-requires-clause-in_hand : goal.at_effect-requires-clause-in_hand
at_effect-requires-clause-in_hand g c κs within =
    let F : Fixed = fixed_in g.A.Action.meaning c.args.words.now in
    let cmd : Command = command_of c.args.cmd.now in
    let holds = holds_leaves F cmd c.own_words-own.result c.args.hand.now c.own_words-own.new.hand c.take_leaves.new.hand c.own_words-own.ensures.view c.in_ok-take_leaves.ensures.view c.in_ok-take_leaves.ensures.tried in
    let read = has_read F c.own_again-again.new.hand c.read_nodes.new.hand c.read_effect-effect.new.hand c.in_ok-seen.ensures.view c.read_effect-effect.ensures.view c.read_effect-effect.result c.in_ok-seen.ensures.tried c.read_effect-effect.ensures.effect in
    in_hand_known F cmd c.own_words-own.result c.own_again-again.result _ c.args.hand.now c.take_leaves.new.hand c.own_again-again.new.hand holds c.own_again-again.ensures.view c.read_effect-effect.result c.read_effect-effect.new.hand read

pub write_effect-requires-clause-held : goal.write_effect-requires-clause-held
write_effect-requires-clause-held g c κs within =
    let F : Fixed = fixed_in g.A.Action.meaning c.args.words.now in
    let cmd : Command = command_of c.args.cmd.now in
    let holds = holds_leaves F cmd c.own_words-own.result c.args.hand.now c.own_words-own.new.hand c.take_leaves.new.hand c.own_words-own.ensures.view c.in_ok-take_leaves.ensures.view c.in_ok-take_leaves.ensures.tried in
    let read = has_read F c.own_again-again.new.hand c.read_nodes.new.hand c.read_effect-effect.new.hand c.in_ok-seen.ensures.view c.read_effect-effect.ensures.view c.read_effect-effect.result c.in_ok-seen.ensures.tried c.read_effect-effect.ensures.effect in
    held_read F cmd c.own_words-own.result c.own_again-again.result _ c.args.hand.now c.take_leaves.new.hand c.own_again-again.new.hand holds c.own_again-again.ensures.view c.read_effect-effect.result c.read_effect-effect.new.hand read c.held_for-held.result c.held_for-held.ensures

pub write_effect-requires-clause-again_is : goal.write_effect-requires-clause-again_is
write_effect-requires-clause-again_is g c κs within =
    let F : Fixed = fixed_in g.A.Action.meaning c.args.words.now in
    let cmd : Command = command_of c.args.cmd.now in
    let holds = holds_leaves F cmd c.own_words-own.result c.args.hand.now c.own_words-own.new.hand c.take_leaves.new.hand c.own_words-own.ensures.view c.in_ok-take_leaves.ensures.view c.in_ok-take_leaves.ensures.tried in
    let read = has_read F c.own_again-again.new.hand c.read_nodes.new.hand c.read_effect-effect.new.hand c.in_ok-seen.ensures.view c.read_effect-effect.ensures.view c.read_effect-effect.result c.in_ok-seen.ensures.tried c.read_effect-effect.ensures.effect in
    again_still F cmd c.own_words-own.result c.own_again-again.result _ c.args.hand.now c.take_leaves.new.hand c.own_again-again.new.hand holds c.own_again-again.ensures.view c.read_effect-effect.result c.read_effect-effect.new.hand read

pub returns-in_err-place-clause-left : goal.returns-in_err-place-clause-left
returns-in_err-place-clause-left g c =
    let F : Fixed = fixed_in g.A.Action.meaning c.args.words.now in
    let cmd : Command = command_of c.args.cmd.now in
    let holds = holds_leaves F cmd c.own_words-own.result c.args.hand.now c.own_words-own.new.hand c.take_leaves.new.hand c.own_words-own.ensures.view c.in_ok-take_leaves.ensures.view c.in_ok-take_leaves.ensures.tried in
    let read = has_read F c.own_again-again.new.hand c.read_nodes.new.hand c.read_effect-effect.new.hand c.in_ok-seen.ensures.view c.read_effect-effect.ensures.view c.read_effect-effect.result c.in_ok-seen.ensures.tried c.read_effect-effect.ensures.effect in
    let at_once = c.in_err-place.ensures.at_once in
    let none_at_leaves = none_refused_yet c.args.hand.now c.own_words-own.new.hand c.take_leaves.new.hand (none_begun F cmd c.own_words-own.result c.args.hand.now c.own_words-own.new.hand c.take_leaves.new.hand c.own_words-own.ensures.view) (c.in_ok-take_leaves.ensures.served at_once) in
    let none_read = none_while_read F c.own_again-again.new.hand c.read_nodes.new.hand c.read_effect-effect.new.hand c.in_ok-seen.ensures.view c.read_effect-effect.ensures.view (c.in_ok-seen.ensures.served at_once) in
    on_err _ (has_left F _ cmd c.args.hand.now c.read_effect-effect.new.hand c.write_effect.new.hand (in_hand_read F cmd c.own_words-own.result c.own_again-again.result _ c.args.hand.now c.take_leaves.new.hand c.own_again-again.new.hand holds c.own_again-again.ensures.view c.read_effect-effect.result c.read_effect-effect.new.hand read none_at_leaves none_read) c.in_err-place.ensures.given_up)

pub returns-in_err-place-clause-refusals : goal.returns-in_err-place-clause-refusals
returns-in_err-place-clause-refusals g c are =
    let F : Fixed = fixed_in g.A.Action.meaning c.args.words.now in
    let cmd : Command = command_of c.args.cmd.now in
    let holds = holds_leaves F cmd c.own_words-own.result c.args.hand.now c.own_words-own.new.hand c.take_leaves.new.hand c.own_words-own.ensures.view c.in_ok-take_leaves.ensures.view c.in_ok-take_leaves.ensures.tried in
    let noted = refusals_again F cmd c.own_words-own.result c.own_again-again.result _ c.args.hand.now c.take_leaves.new.hand c.own_again-again.new.hand holds c.own_again-again.ensures.view _ (c.take_leaves.ensures.refusals (refusals_begun F cmd c.own_words-own.result c.args.hand.now c.own_words-own.new.hand c.take_leaves.new.hand c.own_words-own.ensures.view _ are)) in
    let noted_read = read_refusals F c.own_again-again.new.hand c.read_nodes.new.hand c.read_effect-effect.new.hand c.in_ok-seen.ensures.view c.read_effect-effect.ensures.view _ (c.in_ok-seen.ensures.refusals noted) in
    c.write_effect.ensures.refusals noted_read

pub at_commit-committed-requires-clause-at : goal.at_commit-committed-requires-clause-at
at_commit-committed-requires-clause-at g c =
    let F : Fixed = fixed_in g.A.Action.meaning c.args.words.now in
    let cmd : Command = command_of c.args.cmd.now in
    let holds = holds_leaves F cmd c.own_words-own.result c.args.hand.now c.own_words-own.new.hand c.take_leaves.new.hand c.own_words-own.ensures.view c.in_ok-take_leaves.ensures.view c.in_ok-take_leaves.ensures.tried in
    let read = has_read F c.own_again-again.new.hand c.read_nodes.new.hand c.read_effect-effect.new.hand c.in_ok-seen.ensures.view c.read_effect-effect.ensures.view c.read_effect-effect.result c.in_ok-seen.ensures.tried c.read_effect-effect.ensures.effect in
    committed_point F cmd c.own_words-own.result c.own_again-again.result _ c.args.hand.now c.take_leaves.new.hand c.own_again-again.new.hand holds c.own_again-again.ensures.view c.read_effect-effect.result c.read_effect-effect.new.hand read c.in_ok-place.place c.write_effect.new.hand c.in_ok-place.ensures.written

pub returns-clause-moved : goal.returns-clause-moved
returns-clause-moved g c =
    let F : Fixed = fixed_in g.A.Action.meaning c.args.words.now in
    let cmd : Command = command_of c.args.cmd.now in
    let holds = holds_leaves F cmd c.own_words-own.result c.args.hand.now c.own_words-own.new.hand c.take_leaves.new.hand c.own_words-own.ensures.view c.in_ok-take_leaves.ensures.view c.in_ok-take_leaves.ensures.tried in
    let read = has_read F c.own_again-again.new.hand c.read_nodes.new.hand c.read_effect-effect.new.hand c.in_ok-seen.ensures.view c.read_effect-effect.ensures.view c.read_effect-effect.result c.in_ok-seen.ensures.tried c.read_effect-effect.ensures.effect in
    let entry = some_entry _ _ (sym c.unwrap-entry.ensures ∙ c.show_moment.ensures ∙ ap (λ (m : MomentView). m.entry) c.at_commit-committed.ensures) ∙ c.entry_of.ensures in
    has_moved F cmd c.own_words-own.result c.own_again-again.result _ c.args.hand.now c.take_leaves.new.hand c.own_again-again.new.hand holds c.own_again-again.ensures.view c.read_effect-effect.result c.read_effect-effect.new.hand read c.in_ok-place.place c.write_effect.new.hand c.in_ok-place.ensures.written c.return_leaves.new.hand c.return_leaves.ensures.view c.unwrap-entry.result entry

pub returns-clause-served : goal.returns-clause-served
returns-clause-served g c at_once =
    let F : Fixed = fixed_in g.A.Action.meaning c.args.words.now in
    let cmd : Command = command_of c.args.cmd.now in
    let holds = holds_leaves F cmd c.own_words-own.result c.args.hand.now c.own_words-own.new.hand c.take_leaves.new.hand c.own_words-own.ensures.view c.in_ok-take_leaves.ensures.view c.in_ok-take_leaves.ensures.tried in
    let read = has_read F c.own_again-again.new.hand c.read_nodes.new.hand c.read_effect-effect.new.hand c.in_ok-seen.ensures.view c.read_effect-effect.ensures.view c.read_effect-effect.result c.in_ok-seen.ensures.tried c.read_effect-effect.ensures.effect in
    let none_at_leaves = none_refused_yet c.args.hand.now c.own_words-own.new.hand c.take_leaves.new.hand (none_begun F cmd c.own_words-own.result c.args.hand.now c.own_words-own.new.hand c.take_leaves.new.hand c.own_words-own.ensures.view) (c.in_ok-take_leaves.ensures.served at_once) in
    let none_read = none_while_read F c.own_again-again.new.hand c.read_nodes.new.hand c.read_effect-effect.new.hand c.in_ok-seen.ensures.view c.read_effect-effect.ensures.view (c.in_ok-seen.ensures.served at_once) in
    none_end F cmd c.own_words-own.result c.own_again-again.result _ c.args.hand.now c.take_leaves.new.hand c.own_again-again.new.hand holds c.own_again-again.ensures.view c.read_effect-effect.result c.read_effect-effect.new.hand read c.in_ok-place.place c.write_effect.new.hand c.in_ok-place.ensures.written c.return_leaves.new.hand c.return_leaves.ensures.view none_at_leaves none_read (c.in_ok-place.ensures.served at_once)

pub returns-clause-refusals : goal.returns-clause-refusals
returns-clause-refusals g c are =
    let F : Fixed = fixed_in g.A.Action.meaning c.args.words.now in
    let cmd : Command = command_of c.args.cmd.now in
    let holds = holds_leaves F cmd c.own_words-own.result c.args.hand.now c.own_words-own.new.hand c.take_leaves.new.hand c.own_words-own.ensures.view c.in_ok-take_leaves.ensures.view c.in_ok-take_leaves.ensures.tried in
    let read = has_read F c.own_again-again.new.hand c.read_nodes.new.hand c.read_effect-effect.new.hand c.in_ok-seen.ensures.view c.read_effect-effect.ensures.view c.read_effect-effect.result c.in_ok-seen.ensures.tried c.read_effect-effect.ensures.effect in
    let noted = refusals_again F cmd c.own_words-own.result c.own_again-again.result _ c.args.hand.now c.take_leaves.new.hand c.own_again-again.new.hand holds c.own_again-again.ensures.view _ (c.take_leaves.ensures.refusals (refusals_begun F cmd c.own_words-own.result c.args.hand.now c.own_words-own.new.hand c.take_leaves.new.hand c.own_words-own.ensures.view _ are)) in
    let noted_read = read_refusals F c.own_again-again.new.hand c.read_nodes.new.hand c.read_effect-effect.new.hand c.in_ok-seen.ensures.view c.read_effect-effect.ensures.view _ (c.in_ok-seen.ensures.refusals noted) in
    refusals_end F cmd c.own_words-own.result c.own_again-again.result _ c.args.hand.now c.take_leaves.new.hand c.own_again-again.new.hand holds c.own_again-again.ensures.view c.read_effect-effect.result c.read_effect-effect.new.hand read c.in_ok-place.place c.write_effect.new.hand c.in_ok-place.ensures.written c.return_leaves.new.hand c.return_leaves.ensures.view _ (c.write_effect.ensures.refusals noted_read)
