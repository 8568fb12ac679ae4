use Rattle.std.proofs.Common.{sym, subst, length}
use Rattle.ruled_words.specs.Starts.{fixed_by}
use Rattle.ruled_words.specs.Passes.{PassView, IsReady, HasGone}
use Rattle.ruled_words.specs.GivingUp.{quitting_pass}
use Rattle.ruled_words.specs.Hands.{hand_view}
use Rattle.ruled_words.proofs.Ready.{sound_sight_ready, may_ready, has_gone}
use Rattle.ruled_words.proofs.hand.Hand.yield_on.Goals as goal

pub step_as-requires-clause-sound_sight : goal.step_as-requires-clause-sound_sight
step_as-requires-clause-sound_sight g c κs within =
    sound_sight_ready _ _ _ _ _ _ _ _ (subst (λ (h : PassView). IsReady (fixed_by g.A.Action.meaning c.args.words.now.key.action.value c.args.words.now.key.world.value) (length c.args.words.now.key.rooms.items) c.args.words.now.table_id (quitting_pass h c.args.begins) h c.args.word) (sym c.self.view_is) c.requires.ready) c.self.invariant

pub step_as-requires-clause-next : goal.step_as-requires-clause-next
step_as-requires-clause-next g c κs within =
    may_ready _ _ _ _ _ _ _ _ (subst (λ (h : PassView). IsReady (fixed_by g.A.Action.meaning c.args.words.now.key.action.value c.args.words.now.key.world.value) (length c.args.words.now.key.rooms.items) c.args.words.now.table_id (quitting_pass h c.args.begins) h c.args.word) (sym c.self.view_is) c.requires.ready) c.self.invariant

pub returns-clause-gone : goal.returns-clause-gone
returns-clause-gone g c =
    subst (λ (h : PassView). HasGone (fixed_by g.A.Action.meaning c.args.words.now.key.action.value c.args.words.now.key.world.value) (length c.args.words.now.key.rooms.items) (quitting_pass h c.args.begins) c.step_as.result (hand_view c.step_as.new.seat c.self.inside.setting c.self.inside.number)) c.self.view_is
    (has_gone _ _ _ _ _ _ _ _ (subst (λ (h : PassView). IsReady (fixed_by g.A.Action.meaning c.args.words.now.key.action.value c.args.words.now.key.world.value) (length c.args.words.now.key.rooms.items) c.args.words.now.table_id (quitting_pass h c.args.begins) h c.args.word) (sym c.self.view_is) c.requires.ready) c.self.invariant c.step_as.new.seat c.step_as.result c.step_as.ensures.table c.step_as.ensures.stepped)
