use Rattle.std.proofs.Common.{ℕ, ◌+◌, ◌≤◌, length, refl, List, ◌++◌, ◌∷◌, [], sym, ap, ◌∙◌, subst, arith}
use Rattle.entity_recs.specs.declared.rec.Rec.{Rec}
use Rattle.world_tree.specs.Nears.{NearView}
use Rattle.core_steps.specs.Reads.{region_in}
use Rattle.ruled_words.specs.Passes.{fixed_in}
use Rattle.ruled_words.proofs.StateSteps.{put_last, AreSensed, sensed_none, sensed_at, sensed_room, sensed_one, sensed_view, sensed_near}
use Rattle.ruled_words.proofs.shared_words.SharedWords.load_all.Goals as goal

pub load_thing-requires-clause-at : goal.load_thing-requires-clause-at
load_thing-requires-clause-at g c κs within =
    let F = fixed_in g.A.Action.meaning c.args.self.now in
    let things = c.map_things-things.result.now in
    let are = c.map_things-things.ensures.things in
    let start = c.args.hand.now in
    let region = region_in F start.view.cmd start.view.own in
    let here = c.loop-thing-test.true in
    sensed_at F things region are c.map_things-things.ensures.rise start c.args.near.now.items c.loop-thing.hand c.loop-thing.near.items c.loop-thing.thing-index _ here c.loop-thing.invariant.sensed (c.requires.all things are c.loop-thing.thing-index _ here)

pub loop-thing-init : goal.loop-thing-init
loop-thing-init g c =
    let F = fixed_in g.A.Action.meaning c.args.self.now in
    let start = c.args.hand.now in
    let region = region_in F start.view.cmd start.view.own in
    record {
      own = c.requires.own;
      sensed = sensed_none F c.map_things-things.result.now region c.map_things-things.ensures.things c.map_things-things.ensures.rise start c.args.near.now.items c.requires.own.plain c.requires.at c.requires.few;
      room = refl;
    }

pub loop-thing-preserved : goal.loop-thing-preserved
loop-thing-preserved g c =
    let F = fixed_in g.A.Action.meaning c.args.self.now in
    let things = c.map_things-things.result.now in
    let are = c.map_things-things.ensures.things in
    let rise = c.map_things-things.ensures.rise in
    let start = c.args.hand.now in
    let region = region_in F start.view.cmd start.view.own in
    let before = c.args.near.now.items in
    let k = c.loop-thing.thing-index in
    let here = c.loop-thing-test.true in
    let is = c.loop-thing.invariant.sensed in
    let loaded = c.load_thing.ensures in
    let more = sensed_one F things region are rise start before c.loop-thing.hand c.loop-thing.near.items k _ here is (c.requires.all things are k _ here) c.load_thing.new.hand c.load_thing.result.state loaded.view in
    let room = sensed_room F things region are rise start before c.loop-thing.hand c.loop-thing.near.items k c.load_thing.result here is
    c.loop-thing.near.room (subst (λ (n : ℕ). 64 + length F.start.ids ≤ n) (sym c.loop-thing.invariant.room) c.requires.room) in
    let pushed = put_last c.push.result c.loop-thing.near c.push.new.self c.load_thing.result c.push.ensures.room c.push.ensures.records room in
    let near_is = ap (λ (l : NearView). l.items) pushed ∙ ap (λ (r : Rec). c.loop-thing.near.items ++ r ∷ []) loaded.thing in
    record {
      own = loaded.own;
      sensed = subst (λ (rs : List Rec). AreSensed region things start c.load_thing.new.hand before rs (k + 1)) (sym near_is) more;
      room = ap (λ (l : NearView). l.room) pushed ∙ c.loop-thing.invariant.room;
    }

pub returns-clause-view : goal.returns-clause-view
returns-clause-view g c =
    let F = fixed_in g.A.Action.meaning c.args.self.now in
    let start = c.args.hand.now in
    sensed_view F c.map_things-things.result.now (region_in F start.view.cmd start.view.own) c.map_things-things.ensures.things c.map_things-things.ensures.rise start c.args.near.now.items c.loop-thing.hand c.loop-thing.near.items c.loop-thing.thing-index (omega (arith, c.loop-thing-test.false)) c.loop-thing.invariant.sensed

pub returns-clause-near : goal.returns-clause-near
returns-clause-near g c =
    let F = fixed_in g.A.Action.meaning c.args.self.now in
    let start = c.args.hand.now in
    sensed_near F c.map_things-things.result.now (region_in F start.view.cmd start.view.own) c.map_things-things.ensures.things c.map_things-things.ensures.rise start c.args.near.now.items c.loop-thing.hand c.loop-thing.near.items c.loop-thing.thing-index (omega (arith, c.loop-thing-test.false)) c.loop-thing.invariant.sensed
