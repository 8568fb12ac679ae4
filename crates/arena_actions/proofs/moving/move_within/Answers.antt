use Rattle.std.proofs.Common.{◌≡◌, ℕ, ◌+◌, ◌≤◌, ◌++◌, List, [], filter, length, false, true, Bool, IsTrue, sym, ap, ◌∙◌, arith}
use Rattle.arena_geo.specs.Bounds.{Bounds}
use Rattle.arena_geo.specs.Boxes.{overlaps}
use Rattle.player_move.specs.Intents.{intent_of}
use Rattle.box_trace.specs.declared.walls.TheConstants.{WALLS}
use Rattle.arena_map.specs.declared.limits.TheConstants.{MOST_BLOCKS}
use Rattle.arena_actions.proofs.Keeping.{length-filter-le, move_of_kept}
use Rattle.arena_actions.proofs.moving.move_within.Goals as goal
use Rattle.arena_actions.proofs.moving.move_within.Goals.{else-push_overlapping-via-then-push_overlapping+else-push_bodies, else-push_overlapping-via-else-push_overlapping}

pub returns-then-push_bodies-clause-moved : goal.returns-then-push_bodies-clause-moved
returns-then-push_bodies-clause-moved g c =
    move_of_kept c.args.map.now c.args.me.now c.args.near.now (intent_of c.args.cmd.now) c.args.place.now c.new-solids.result c.solids.result.now _ _ _ c.move_player.result
    c.args.cmd.now.is_short c.requires.place c.new-solids.ensures c.solids.ensures.value c.if-push_overlapping.ensures.boxes c.if-push_bodies.ensures.boxes c.as_slice.ensures.value c.move_player.ensures.value

-- there is no room only where there are more
no_room : (none solids : List Bounds) (limit n most : ℕ) (room : Bool) → none ≡ [] → length solids ≤ limit → limit + n ≤ most → (length none + length solids ≤ most → IsTrue room) → room ≡ false → ⊥
no_room none solids limit n most room none_is few much has lacks =
    let empty : length none ≡ 0 = ap (λ (l : List Bounds). length l) none_is in
    true_false (sym (has (omega (arith, empty, few, much))) ∙ lacks)
  where
    true_false : true ≡ false → ⊥
    true_false h = cc

-- so it is with what comes after those that passed a test
no_room_then : (none solids first : List Bounds) (test : Bounds → Bool) (limit n most : ℕ) (room : Bool) → none ≡ [] → length solids ≤ limit → limit + n ≤ most → first ≡ none ++ filter test solids
    → (length first + n ≤ most → IsTrue room) → room ≡ false → ⊥
no_room_then none solids first test limit n most room none_is few much first_is has lacks =
    let long : length first ≡ length (filter test solids) = ap (λ (l : List Bounds). length l) (first_is ∙ ap (λ (l : List Bounds). l ++ filter test solids) none_is) in
    let less : length (filter test solids) ≤ length solids = length-filter-le test solids in
    true_false (sym (has (omega (arith, long, less, few, much))) ∙ lacks)
  where
    true_false : true ≡ false → ⊥
    true_false h = cc

pub returns-else-push_overlapping-clause-room : goal.returns-else-push_overlapping-clause-room
returns-else-push_overlapping-clause-room g c room =
    elim c.else-push_overlapping.branch [
      | else-push_overlapping-via-then-push_overlapping+else-push_bodies w ↦
          absurd (no_room_then _ c.solids.result.now _ (overlaps c.args.place.now) (WALLS + MOST_BLOCKS) (length c.args.near.now) g.row.N _ c.new-solids.ensures c.solids.ensures.few room w.if-push_overlapping.ensures.boxes w.push_bodies.ensures.room w.if-push_bodies.false)
      | else-push_overlapping-via-else-push_overlapping w ↦
          absurd (no_room _ c.solids.result.now (WALLS + MOST_BLOCKS) (length c.args.near.now) g.row.N _ c.new-solids.ensures c.solids.ensures.few room c.push_overlapping.ensures.room w.if-push_overlapping.false)
    ]
