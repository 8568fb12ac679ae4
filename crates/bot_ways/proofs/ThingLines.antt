-- The line of a thing from its record and its data is its line.
use Rattle.std.proofs.Common.{◌≡◌, ℕ, ◌+◌, ◌<◌, true, length, List, get_or, Some, slice_get, sym, ap, ◌∙◌, arith}
use Rattle.std.proofs.lemmas.Option.{slice_get-get_or, same_Some}
use Rattle.entity_recs.specs.declared.rec.Rec.{Rec}
use Rattle.arena_map.specs.declared.map_line.MapLine.{MapLine}
use Rattle.arena_map.specs.declared.map_line.MapLine.TheVariants.{Arena, Block, Spawn, Item, Teleport, Goal, Lift, Depth, Shots, Blocks}
use Rattle.arena_map.specs.MapLines.{IsWithinLimits, is_thing_line}
use Rattle.arena_map.specs.Maps.{MapView, IsMap, entities_of, dest_of, delay_of, lift_of}
use Rattle.arena_map.specs.LineThings.{GivesAs}
use Rattle.arena_map.proofs.LineThings.{lines_give_their_things}
use Rattle.bot_ways.specs.Things.{thing_line}

-- the line that the code gives for a record
abbrev pub line_of : MapView → Rec → MapLine
line_of m thing = thing_line thing (delay_of m thing.id) (dest_of m thing.id) (lift_of m thing.id)

line-by : (m : MapView) (place : ℕ) (line : MapLine) (thing : Rec) → is_thing_line line ≡ true → GivesAs m place (64 + place) line
    → slice_get (entities_of m) place ≡ Some thing → line_of m thing ≡ line
line-by m place (Arena lo hi) thing is gives there = cc
line-by m place (Block lo hi) thing is gives there = cc
line-by m place (Spawn at) thing is gives there = cc
line-by m place (Depth depth) thing is gives there = cc
line-by m place Shots thing is gives there = cc
line-by m place (Blocks most) thing is gives there = cc
line-by m place (Item at kind delay) thing is gives there =
    let has = gives.0 in
    let known = has.is in
    let only = gives.1 in
    let same : thing ≡ has.thing = same_Some thing has.thing (sym there ∙ has.at) in
    ap (line_of m) same
    ∙ (λ i. thing_line has.thing (delay_of m (known.id_is i)) (dest_of m (known.id_is i)) (lift_of m (known.id_is i)))
    ∙ (λ i. thing_line has.thing (only.delay_is i) (only.dest_is i) (only.lift_is i))
    ∙ (λ i. Item (known.origin i) (known.kind_is i) delay)
line-by m place (Teleport lo hi dest) thing is gives there =
    let has = gives.0 in
    let known = has.is in
    let only = gives.1 in
    let same : thing ≡ has.thing = same_Some thing has.thing (sym there ∙ has.at) in
    ap (line_of m) same
    ∙ (λ i. thing_line has.thing (delay_of m (known.id_is i)) (dest_of m (known.id_is i)) (lift_of m (known.id_is i)))
    ∙ (λ i. thing_line has.thing (only.delay_is i) (only.dest_is i) (only.lift_is i))
    ∙ (λ i. Teleport (known.body i).lo (known.body i).hi dest)
line-by m place (Goal lo hi) thing is gives there =
    let has = gives.0 in
    let known = has.is in
    let only = gives.1 in
    let same : thing ≡ has.thing = same_Some thing has.thing (sym there ∙ has.at) in
    ap (line_of m) same
    ∙ (λ i. thing_line has.thing (delay_of m (known.id_is i)) (dest_of m (known.id_is i)) (lift_of m (known.id_is i)))
    ∙ (λ i. thing_line has.thing (only.delay_is i) (only.dest_is i) (only.lift_is i))
    ∙ (λ i. Goal (known.body i).lo (known.body i).hi)
line-by m place (Lift lo hi rise speed) thing is gives there =
    let has = gives.0 in
    let known = has.is in
    let only = gives.1 in
    let same : thing ≡ has.thing = same_Some thing has.thing (sym there ∙ has.at) in
    ap (line_of m) same
    ∙ (λ i. thing_line has.thing (delay_of m (known.id_is i)) (dest_of m (known.id_is i)) (lift_of m (known.id_is i)))
    ∙ (λ i. thing_line has.thing (only.delay_is i) (only.dest_is i) (only.lift_is i))
    ∙ (λ i. Lift (known.body i).lo (known.body i).hi rise speed)

-- there are as many things as lines of them
pub things-count : (m : MapView) → length (entities_of m) ≡ length m.things
things-count m = lines_give_their_things.count m

-- the line of the thing at a place
pub thing-at : (m : MapView) (place : ℕ) (thing : Rec) (d : MapLine) → IsMap m → place < length m.things → slice_get (entities_of m) place ≡ Some thing
    → line_of m thing ≡ get_or m.things place d
thing-at m place thing d is within there =
    let line = get_or m.things place d in
    let inside = is.things place d within in
    line-by m place line thing inside.thing (lines_give_their_things.each m place line (slice_get-get_or m.things place d within)) there

pub limits-at : (m : MapView) (place : ℕ) (d : MapLine) → IsMap m → place < length m.things → IsWithinLimits (get_or m.things place d)
limits-at m place d is within = (is.things place d within).limits

-- there is a record for each line
pub record-within : (m : MapView) (records : List Rec) (place : ℕ) → records ≡ entities_of m → place < length m.things → place < length records
record-within m records place is within = omega (arith, within, things-count m, ap (λ (rs : List Rec). length rs) is)
