use Rattle.std.proofs.Common.{◌≡◌, ap, sym, length, true, is_some}
use Rattle.core_steps.specs.Machine.{index_of}
use Rattle.core_seats.specs.Nexts.{the_next}
use Rattle.core_seats.specs.Shown.{fixed_of}
use Rattle.ruled_words.specs.Passes.{HasGone, IsOwn, fixed_in, next_in, word_after}
use Rattle.ruled_words.specs.WordSteps.{word_by, MayBe}
use Rattle.region_locks.proofs.Following.{beside_is, of_hand, can_follow, stepped, things_room_for, lists_kept}
use Rattle.region_locks.proofs.table.NodeTable.step_word.Goals as goal

pub step_beside-found-requires-clause-own : goal.step_beside-found-requires-clause-own
step_beside-found-requires-clause-own g c κs within =
    of_hand (λ t q. IsOwn g.A.Action.meaning t q) _ _ _ _ c.self.view_is (beside_is _ _ _ _ _ c.pass.view_is c.pass.invariant) c.requires.own

pub step_beside-found-requires-clause-comes : goal.step_beside-found-requires-clause-comes
step_beside-found-requires-clause-comes g c κs within =
    of_hand (λ t q. is_some (next_in g.A.Action.meaning t q) ≡ true) _ _ _ _ c.self.view_is (beside_is _ _ _ _ _ c.pass.view_is c.pass.invariant) c.requires.comes

pub step_beside-found-requires-clause-index : goal.step_beside-found-requires-clause-index
step_beside-found-requires-clause-index g c κs within =
    of_hand (λ t q. c.args.word ≡ index_of q.view (the_next (next_in g.A.Action.meaning t q))) _ _ _ _ c.self.view_is (beside_is _ _ _ _ _ c.pass.view_is c.pass.invariant) c.requires.index

pub step_beside-found-requires-clause-left : goal.step_beside-found-requires-clause-left
step_beside-found-requires-clause-left g c κs within found =
    of_hand (λ t q. word_after (fixed_in g.A.Action.meaning t) q found ≡ word_by c.args.step found) _ _ _ _ c.self.view_is (beside_is _ _ _ _ _ c.pass.view_is c.pass.invariant) (c.requires.left found)

pub step_beside-found-requires-clause-may : goal.step_beside-found-requires-clause-may
step_beside-found-requires-clause-may g c κs within =
    of_hand (λ t q. MayBe c.args.step (fixed_in g.A.Action.meaning t) q.view (the_next (next_in g.A.Action.meaning t q)) c.args.word) _ _ _ _ c.self.view_is (beside_is _ _ _ _ _ c.pass.view_is c.pass.invariant) c.requires.may

pub follow-requires-clause-ready : goal.follow-requires-clause-ready
follow-requires-clause-ready g c κs within =
    let gone : HasGone (fixed_in g.A.Action.meaning c.args.self.now) (length c.args.self.now.rooms) c.args.pass.now c.step_beside-found.result c.step_beside-found.new.hand =
    of_hand (λ t q. HasGone (fixed_in g.A.Action.meaning t) (length t.rooms) q c.step_beside-found.result c.step_beside-found.new.hand) _ _ _ _ (sym c.self.view_is) (sym (beside_is _ _ _ _ _ c.pass.view_is c.pass.invariant)) c.step_beside-found.ensures.gone in
    let same = ap (fixed_of g.A.Action.meaning) c.rules.ensures in
    can_follow _ _ _ _ c.args.pass.now _ _ _ same c.pass.view_is c.requires.own c.requires.comes gone

pub follow-requires-clause-things : goal.follow-requires-clause-things
follow-requires-clause-things g c κs within =
    let same = ap (fixed_of g.A.Action.meaning) c.rules.ensures in
    things_room_for (fixed_in g.A.Action.meaning c.args.self.now) _ (length c.args.self.now.rooms) c.args.self.now.table c.args.pass.now c.pass.inside.hand c.pass.inside.seat c.pass.inside.effect c.pass.inside.room.near same c.pass.view_is c.requires.own c.pass.invariant

pub invariant_of-pass : goal.invariant_of-pass
invariant_of-pass g c =
    let gone : HasGone (fixed_in g.A.Action.meaning c.args.self.now) (length c.args.self.now.rooms) c.args.pass.now c.step_beside-found.result c.step_beside-found.new.hand =
    of_hand (λ t q. HasGone (fixed_in g.A.Action.meaning t) (length t.rooms) q c.step_beside-found.result c.step_beside-found.new.hand) _ _ _ _ (sym c.self.view_is) (sym (beside_is _ _ _ _ _ c.pass.view_is c.pass.invariant)) c.step_beside-found.ensures.gone in
    let same = ap (fixed_of g.A.Action.meaning) c.rules.ensures in
    lists_kept (fixed_in g.A.Action.meaning c.args.self.now) (length c.args.self.now.rooms) c.args.self.now.table c.args.pass.now c.step_beside-found.result c.pass.inside.hand c.step_beside-found.new.hand c.pass.inside.seat c.follow.new.seat c.pass.inside.effect c.follow.new.effect c.pass.inside.room.near c.pass.view_is c.requires.own c.pass.invariant
    (stepped (fixed_in g.A.Action.meaning c.args.self.now) _ (length c.args.self.now.rooms) c.args.self.now.table c.args.pass.now c.step_beside-found.result c.pass.inside.hand c.step_beside-found.new.hand c.pass.inside.seat c.follow.new.seat c.pass.inside.effect c.follow.new.effect same c.pass.view_is c.requires.own c.requires.comes gone
    c.follow.ensures.view c.follow.ensures.given c.follow.ensures.quits c.follow.ensures.effect)
    c.follow.ensures.things

pub returns-clause-pass : goal.returns-clause-pass
returns-clause-pass g c =
    let gone : HasGone (fixed_in g.A.Action.meaning c.args.self.now) (length c.args.self.now.rooms) c.args.pass.now c.step_beside-found.result c.step_beside-found.new.hand =
    of_hand (λ t q. HasGone (fixed_in g.A.Action.meaning t) (length t.rooms) q c.step_beside-found.result c.step_beside-found.new.hand) _ _ _ _ (sym c.self.view_is) (sym (beside_is _ _ _ _ _ c.pass.view_is c.pass.invariant)) c.step_beside-found.ensures.gone in
    let same = ap (fixed_of g.A.Action.meaning) c.rules.ensures in
    (stepped (fixed_in g.A.Action.meaning c.args.self.now) _ (length c.args.self.now.rooms) c.args.self.now.table c.args.pass.now c.step_beside-found.result c.pass.inside.hand c.step_beside-found.new.hand c.pass.inside.seat c.follow.new.seat c.pass.inside.effect c.follow.new.effect same c.pass.view_is c.requires.own c.requires.comes gone
    c.follow.ensures.view c.follow.ensures.given c.follow.ensures.quits c.follow.ensures.effect).pass

pub returns-clause-own : goal.returns-clause-own
returns-clause-own g c =
    let gone : HasGone (fixed_in g.A.Action.meaning c.args.self.now) (length c.args.self.now.rooms) c.args.pass.now c.step_beside-found.result c.step_beside-found.new.hand =
    of_hand (λ t q. HasGone (fixed_in g.A.Action.meaning t) (length t.rooms) q c.step_beside-found.result c.step_beside-found.new.hand) _ _ _ _ (sym c.self.view_is) (sym (beside_is _ _ _ _ _ c.pass.view_is c.pass.invariant)) c.step_beside-found.ensures.gone in
    let same = ap (fixed_of g.A.Action.meaning) c.rules.ensures in
    (stepped (fixed_in g.A.Action.meaning c.args.self.now) _ (length c.args.self.now.rooms) c.args.self.now.table c.args.pass.now c.step_beside-found.result c.pass.inside.hand c.step_beside-found.new.hand c.pass.inside.seat c.follow.new.seat c.pass.inside.effect c.follow.new.effect same c.pass.view_is c.requires.own c.requires.comes gone
    c.follow.ensures.view c.follow.ensures.given c.follow.ensures.quits c.follow.ensures.effect).own

pub returns-clause-taken : goal.returns-clause-taken
returns-clause-taken g c =
    let gone : HasGone (fixed_in g.A.Action.meaning c.args.self.now) (length c.args.self.now.rooms) c.args.pass.now c.step_beside-found.result c.step_beside-found.new.hand =
    of_hand (λ t q. HasGone (fixed_in g.A.Action.meaning t) (length t.rooms) q c.step_beside-found.result c.step_beside-found.new.hand) _ _ _ _ (sym c.self.view_is) (sym (beside_is _ _ _ _ _ c.pass.view_is c.pass.invariant)) c.step_beside-found.ensures.gone in
    gone.taken

pub returns-clause-counted : goal.returns-clause-counted
returns-clause-counted g c =
    let gone : HasGone (fixed_in g.A.Action.meaning c.args.self.now) (length c.args.self.now.rooms) c.args.pass.now c.step_beside-found.result c.step_beside-found.new.hand =
    of_hand (λ t q. HasGone (fixed_in g.A.Action.meaning t) (length t.rooms) q c.step_beside-found.result c.step_beside-found.new.hand) _ _ _ _ (sym c.self.view_is) (sym (beside_is _ _ _ _ _ c.pass.view_is c.pass.invariant)) c.step_beside-found.ensures.gone in
    gone.counted

pub returns-clause-node : goal.returns-clause-node
returns-clause-node g c =
    let gone : HasGone (fixed_in g.A.Action.meaning c.args.self.now) (length c.args.self.now.rooms) c.args.pass.now c.step_beside-found.result c.step_beside-found.new.hand =
    of_hand (λ t q. HasGone (fixed_in g.A.Action.meaning t) (length t.rooms) q c.step_beside-found.result c.step_beside-found.new.hand) _ _ _ _ (sym c.self.view_is) (sym (beside_is _ _ _ _ _ c.pass.view_is c.pass.invariant)) c.step_beside-found.ensures.gone in
    record { held = gone.held; reached = gone.reached }

pub returns-clause-seen : goal.returns-clause-seen
returns-clause-seen g c =
    let gone : HasGone (fixed_in g.A.Action.meaning c.args.self.now) (length c.args.self.now.rooms) c.args.pass.now c.step_beside-found.result c.step_beside-found.new.hand =
    of_hand (λ t q. HasGone (fixed_in g.A.Action.meaning t) (length t.rooms) q c.step_beside-found.result c.step_beside-found.new.hand) _ _ _ _ (sym c.self.view_is) (sym (beside_is _ _ _ _ _ c.pass.view_is c.pass.invariant)) c.step_beside-found.ensures.gone in
    gone.seen
