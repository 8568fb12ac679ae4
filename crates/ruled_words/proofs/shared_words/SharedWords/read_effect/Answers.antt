use Rattle.std.proofs.Common.{List, ◌++◌, sym, ap, ◌∙◌, subst, length}
use Rattle.entity_recs.specs.declared.rec.Rec.{Rec}
use Rattle.entity_recs.specs.Actions.{IsCall}
use Rattle.entity_recs.specs.Commands.{command_of}
use Rattle.core_steps.specs.Reads.{things_in, region_in}
use Rattle.core_seats.specs.NearKept.{things_loaded}
use Rattle.ruled_words.specs.Passes.{PassView, fixed_in}
use Rattle.ruled_words.proofs.EffectRead.{slot_below, may_act, effect_same, keeping_own}
use Rattle.ruled_words.proofs.shared_words.SharedWords.read_effect.Goals as goal

pub act-requires-after_bounds : goal.act-requires-after_bounds
act-requires-after_bounds g c κs within =
    let F = fixed_in g.A.Action.meaning c.args.self.now in
    let new = c.load_states.new.hand in
    let below = slot_below F (length c.args.self.now.rooms) c.args.self.now.table c.args.hand.now (things_in F (region_in F c.args.hand.now.view.cmd c.args.hand.now.view.own)) (command_of c.args.cmd.now) c.requires.own.pass c.requires.at c.requires.cmd_is in
    let resolves = ap (λ (p : PassView). p.view.point) c.load_states.ensures.view in
    let near_is = c.as_slice.ensures.value ∙ c.load_states.ensures.near ∙ ap (λ (rs : List Rec). rs ++ things_loaded F c.args.region.now new.view.states) c.put_players.ensures.players in
    let call = may_act F c.args.hand.now new (command_of c.args.cmd.now) c.args.region.now c.args.again.now c.args.seen c.args.by_slot.now c.as_slice.result.now c.load_states.ensures.rise below
    c.load_states.ensures.view c.requires.region_is c.requires.cmd_is c.requires.again_is c.requires.kept near_is
    (c.load_states.ensures.own.pass.sound_sight.sound.effect resolves) in
    subst (λ (r : Rec). IsCall F.takes r c.as_slice.result.now (command_of c.args.cmd.now)) (sym c.read_record.ensures) call

pub returns-clause-effect : goal.returns-clause-effect
returns-clause-effect g c =
    let F = fixed_in g.A.Action.meaning c.args.self.now in
    let new = c.load_states.new.hand in
    let below = slot_below F (length c.args.self.now.rooms) c.args.self.now.table c.args.hand.now (things_in F (region_in F c.args.hand.now.view.cmd c.args.hand.now.view.own)) (command_of c.args.cmd.now) c.requires.own.pass c.requires.at c.requires.cmd_is in
    let near_is = c.as_slice.ensures.value ∙ c.load_states.ensures.near ∙ ap (λ (rs : List Rec). rs ++ things_loaded F c.args.region.now new.view.states) c.put_players.ensures.players in
    c.act.ensures
    ∙ ap (λ (r : Rec). F.effect_of r c.as_slice.result.now (command_of c.args.cmd.now)) c.read_record.ensures
    ∙ effect_same F c.args.hand.now new (command_of c.args.cmd.now) c.args.region.now c.args.again.now c.args.seen c.args.by_slot.now c.as_slice.result.now c.load_states.ensures.rise below
    c.load_states.ensures.view c.requires.region_is c.requires.cmd_is c.requires.again_is c.requires.kept near_is

pub returns-clause-resolved : goal.returns-clause-resolved
returns-clause-resolved g c =
    let F = fixed_in g.A.Action.meaning c.args.self.now in
    let new = c.load_states.new.hand in
    let below = slot_below F (length c.args.self.now.rooms) c.args.self.now.table c.args.hand.now (things_in F (region_in F c.args.hand.now.view.cmd c.args.hand.now.view.own)) (command_of c.args.cmd.now) c.requires.own.pass c.requires.at c.requires.cmd_is in
    let near_is = c.as_slice.ensures.value ∙ c.load_states.ensures.near ∙ ap (λ (rs : List Rec). rs ++ things_loaded F c.args.region.now new.view.states) c.put_players.ensures.players in
    keeping_own F (length c.args.self.now.rooms) c.args.self.now.table new c.act.result c.load_states.ensures.own.pass (ap (λ (p : PassView). p.view.point) c.load_states.ensures.view)
    (c.act.ensures
    ∙ ap (λ (r : Rec). F.effect_of r c.as_slice.result.now (command_of c.args.cmd.now)) c.read_record.ensures
    ∙ effect_same F c.args.hand.now new (command_of c.args.cmd.now) c.args.region.now c.args.again.now c.args.seen c.args.by_slot.now c.as_slice.result.now c.load_states.ensures.rise below
    c.load_states.ensures.view c.requires.region_is c.requires.cmd_is c.requires.again_is c.requires.kept near_is)
