use Rattle.std.proofs.Common.{◌≡◌, ◌≤◌, ◌∙◌, length, ap, sym, subst, refl}
use Rattle.entity_recs.specs.Records.{IsRecord}
use Rattle.core_steps.specs.Nodes.{home, inner_of_two}
use Rattle.core_steps.specs.Points.{Resolving}
use Rattle.core_steps.specs.Reads.{View, effect_loaded, record_read}
use Rattle.core_seats.proofs.SoundRecords.{before_is_record, loaded_is_record}
use Rattle.ruled_words.specs.Passes.{PassView, fixed_in}
use Rattle.ruled_words.specs.Writing.{nodes_written}
use Rattle.ruled_words.proofs.Claims.{is_claimed, claimed_still, stores_come, slot_still, has_written, none_refused_stored, refusals_written, written_all, written_none_refused, written_refusals}
use Rattle.ruled_words.proofs.shared_words.SharedWords.write_effect.Goals as goal

pub homes-old-requires-clause-before : goal.homes-old-requires-clause-before
homes-old-requires-clause-before g c κs within =
    let laws = g.met.A.Action g.world.𝓛 g.world.𝓜 g.world.𝓡 ((λ s x. x), (λ x. x), (λ x. x), λ x. x) in
    let before : c.read_record.result ≡ record_read c.args.hand.now.view.cmd.slot c.args.hand.now.view.again = c.read_record.ensures ∙ (λ i. record_read (c.requires.held.slot_is i) (c.requires.again_is i)) in
    subst IsRecord (sym before)
    (before_is_record (fixed_in g.A.Action.meaning c.args.self.now) c.args.hand.now.view c.requires.own.pass.sound_sight.sound Resolving (laws.validity c.args.self.now.action) c.requires.at refl refl)

pub homes-old-requires-clause-after : goal.homes-old-requires-clause-after
homes-old-requires-clause-after g c κs within =
    let laws = g.met.A.Action g.world.𝓛 g.world.𝓜 g.world.𝓡 ((λ s x. x), (λ x. x), (λ x. x), λ x. x) in
    loaded_is_record (fixed_in g.A.Action.meaning c.args.self.now) c.args.hand.now.view c.requires.own.pass.sound_sight.sound c.args.effect.now (laws.validity c.args.self.now.action) c.requires.at c.requires.effect

pub take_write_nodes-requires-clause-nodes : goal.take_write_nodes-requires-clause-nodes
take_write_nodes-requires-clause-nodes g c κs within =
    let before : c.read_record.result ≡ record_read c.args.hand.now.view.cmd.slot c.args.hand.now.view.again = c.read_record.ensures ∙ (λ i. record_read (c.requires.held.slot_is i) (c.requires.again_is i)) in
    let old = c.homes-old.ensures.old ∙ ap (home (fixed_in g.A.Action.meaning c.args.self.now)) before in
    let nodes : c.as_slice-nodes.result.now ≡ nodes_written (fixed_in g.A.Action.meaning c.args.self.now) c.args.hand.now.view c.args.effect.now =
    c.as_slice-nodes.ensures.value ∙ c.write_nodes-queue.ensures ∙ (λ i. inner_of_two (fixed_in g.A.Action.meaning c.args.self.now) (old i) (c.homes-old.ensures.new i)) in
    nodes

pub commit_on-place-requires-clause-claimed : goal.commit_on-place-requires-clause-claimed
commit_on-place-requires-clause-claimed g c κs within = is_claimed (fixed_in g.A.Action.meaning c.args.self.now) (length c.args.self.now.rooms) c.args.self.now.table c.args.hand.now c.args.effect.now c.as_slice-nodes.result.now c.take_write_nodes.new.hand c.take_write_nodes.ensures.own c.in_ok-take_write_nodes.ensures.tried

pub commit_on-place-requires-clause-effect : goal.commit_on-place-requires-clause-effect
commit_on-place-requires-clause-effect g c κs within =
    claimed_still (fixed_in g.A.Action.meaning c.args.self.now) (length c.args.self.now.rooms) c.args.self.now.table c.args.hand.now c.args.effect.now c.as_slice-nodes.result.now c.take_write_nodes.new.hand c.take_write_nodes.ensures.own c.in_ok-take_write_nodes.ensures.tried (λ (v : View). c.args.effect.now ≡ effect_loaded (fixed_in g.A.Action.meaning c.args.self.now) v) c.requires.effect

pub commit_on-place-requires-clause-nodes : goal.commit_on-place-requires-clause-nodes
commit_on-place-requires-clause-nodes g c κs within =
    let before : c.read_record.result ≡ record_read c.args.hand.now.view.cmd.slot c.args.hand.now.view.again = c.read_record.ensures ∙ (λ i. record_read (c.requires.held.slot_is i) (c.requires.again_is i)) in
    let old = c.homes-old.ensures.old ∙ ap (home (fixed_in g.A.Action.meaning c.args.self.now)) before in
    let nodes : c.as_slice-nodes.result.now ≡ nodes_written (fixed_in g.A.Action.meaning c.args.self.now) c.args.hand.now.view c.args.effect.now =
    c.as_slice-nodes.ensures.value ∙ c.write_nodes-queue.ensures ∙ (λ i. inner_of_two (fixed_in g.A.Action.meaning c.args.self.now) (old i) (c.homes-old.ensures.new i)) in
    claimed_still (fixed_in g.A.Action.meaning c.args.self.now) (length c.args.self.now.rooms) c.args.self.now.table c.args.hand.now c.args.effect.now c.as_slice-nodes.result.now c.take_write_nodes.new.hand c.take_write_nodes.ensures.own c.in_ok-take_write_nodes.ensures.tried (λ (v : View). c.as_slice-nodes.result.now ≡ nodes_written (fixed_in g.A.Action.meaning c.args.self.now) v c.args.effect.now) nodes

pub store_all-requires-clause-next : goal.store_all-requires-clause-next
store_all-requires-clause-next g c κs within =
    let before : c.read_record.result ≡ record_read c.args.hand.now.view.cmd.slot c.args.hand.now.view.again = c.read_record.ensures ∙ (λ i. record_read (c.requires.held.slot_is i) (c.requires.again_is i)) in
    stores_come (fixed_in g.A.Action.meaning c.args.self.now) (length c.args.self.now.rooms) c.args.self.now.table c.args.hand.now c.args.effect.now c.as_slice-nodes.result.now c.take_write_nodes.new.hand c.take_write_nodes.ensures.own c.in_ok-take_write_nodes.ensures.tried c.commit_on-place.result c.commit_on-place.new.hand c.commit_on-place.ensures.view c.args.held.now.slot c.homes-old.result.0 c.requires.held.slot_is (c.homes-old.ensures.old ∙ ap (home (fixed_in g.A.Action.meaning c.args.self.now)) before)

pub store_all-requires-clause-slot : goal.store_all-requires-clause-slot
store_all-requires-clause-slot g c κs within = slot_still (fixed_in g.A.Action.meaning c.args.self.now) (length c.args.self.now.rooms) c.args.self.now.table c.args.hand.now c.args.effect.now c.as_slice-nodes.result.now c.take_write_nodes.new.hand c.take_write_nodes.ensures.own c.in_ok-take_write_nodes.ensures.tried c.commit_on-place.result c.commit_on-place.new.hand c.commit_on-place.ensures.view c.args.held.now.slot c.requires.held.slot_is

pub store_all-requires-clause-node : goal.store_all-requires-clause-node
store_all-requires-clause-node g c κs within = c.homes-old.ensures.new

pub release_nodes-requires-clause-at : goal.release_nodes-requires-clause-at
release_nodes-requires-clause-at g c κs within =
    ap (λ (q : PassView). q.view.point) (has_written (fixed_in g.A.Action.meaning c.args.self.now) (length c.args.self.now.rooms) c.args.self.now.table c.args.hand.now c.args.effect.now c.as_slice-nodes.result.now c.take_write_nodes.new.hand c.take_write_nodes.ensures.own c.in_ok-take_write_nodes.ensures.tried c.commit_on-place.result c.commit_on-place.new.hand c.commit_on-place.ensures.view c.store_all.new.hand c.store_all.ensures.view).hand

pub returns-clause-written : goal.returns-clause-written
returns-clause-written g c =
    let seen : c.args.hand.now.view.seen ≤ c.commit_on-place.result =
    claimed_still (fixed_in g.A.Action.meaning c.args.self.now) (length c.args.self.now.rooms) c.args.self.now.table c.args.hand.now c.args.effect.now c.as_slice-nodes.result.now c.take_write_nodes.new.hand c.take_write_nodes.ensures.own c.in_ok-take_write_nodes.ensures.tried (λ (v : View). v.seen ≤ c.commit_on-place.result → c.args.hand.now.view.seen ≤ c.commit_on-place.result) (λ seen. seen) c.commit_on-place.ensures.seen in
    written_all (fixed_in g.A.Action.meaning c.args.self.now) c.args.effect.now c.commit_on-place.result c.as_slice-nodes.result.now c.args.hand.now c.store_all.new.hand c.release_nodes.new.hand
    (has_written (fixed_in g.A.Action.meaning c.args.self.now) (length c.args.self.now.rooms) c.args.self.now.table c.args.hand.now c.args.effect.now c.as_slice-nodes.result.now c.take_write_nodes.new.hand c.take_write_nodes.ensures.own c.in_ok-take_write_nodes.ensures.tried c.commit_on-place.result c.commit_on-place.new.hand c.commit_on-place.ensures.view c.store_all.new.hand c.store_all.ensures.view) c.release_nodes.ensures.view seen c.commit_on-place.ensures.small

pub returns-clause-refusals : goal.returns-clause-refusals
returns-clause-refusals g c are =
    written_refusals (fixed_in g.A.Action.meaning c.args.self.now) c.args.effect.now c.commit_on-place.result c.as_slice-nodes.result.now c.args.hand.now c.store_all.new.hand c.release_nodes.new.hand
    (has_written (fixed_in g.A.Action.meaning c.args.self.now) (length c.args.self.now.rooms) c.args.self.now.table c.args.hand.now c.args.effect.now c.as_slice-nodes.result.now c.take_write_nodes.new.hand c.take_write_nodes.ensures.own c.in_ok-take_write_nodes.ensures.tried c.commit_on-place.result c.commit_on-place.new.hand c.commit_on-place.ensures.view c.store_all.new.hand c.store_all.ensures.view) c.release_nodes.ensures.view c.take_write_nodes.new.refusals
    (refusals_written (fixed_in g.A.Action.meaning c.args.self.now) (length c.args.self.now.rooms) c.args.self.now.table c.args.hand.now c.args.effect.now c.as_slice-nodes.result.now c.take_write_nodes.new.hand c.take_write_nodes.ensures.own c.in_ok-take_write_nodes.ensures.tried c.commit_on-place.result c.commit_on-place.new.hand c.commit_on-place.ensures.view c.store_all.new.hand c.store_all.ensures.view c.take_write_nodes.new.refusals (c.take_write_nodes.ensures.refusals are))

pub returns-clause-served : goal.returns-clause-served
returns-clause-served g c at_once =
    written_none_refused (fixed_in g.A.Action.meaning c.args.self.now) c.args.effect.now c.commit_on-place.result c.as_slice-nodes.result.now c.args.hand.now c.store_all.new.hand c.release_nodes.new.hand
    (has_written (fixed_in g.A.Action.meaning c.args.self.now) (length c.args.self.now.rooms) c.args.self.now.table c.args.hand.now c.args.effect.now c.as_slice-nodes.result.now c.take_write_nodes.new.hand c.take_write_nodes.ensures.own c.in_ok-take_write_nodes.ensures.tried c.commit_on-place.result c.commit_on-place.new.hand c.commit_on-place.ensures.view c.store_all.new.hand c.store_all.ensures.view) c.release_nodes.ensures.view
    (none_refused_stored (fixed_in g.A.Action.meaning c.args.self.now) (length c.args.self.now.rooms) c.args.self.now.table c.args.hand.now c.args.effect.now c.as_slice-nodes.result.now c.take_write_nodes.new.hand c.take_write_nodes.ensures.own c.in_ok-take_write_nodes.ensures.tried c.commit_on-place.result c.commit_on-place.new.hand c.commit_on-place.ensures.view c.store_all.new.hand c.store_all.ensures.view (c.in_ok-take_write_nodes.ensures.served at_once))
