use Rattle.std.proofs.Common.{◌≡◌, Bool, true, false, not, ◌&&◌, ◌||◌, List, refl, sym, ap, ◌∙◌}
use Rattle.std.specs.List.{list_any}
use Rattle.arena_geo.specs.Bounds.{Bounds}
use Rattle.arena_geo.specs.Boxes.{overlaps, is_blocked}
use Rattle.entity_recs.specs.declared.rec.Rec.{Rec}
use Rattle.entity_recs.specs.Kinds.{is_solid}
use Rattle.entity_recs.specs.Bodies.{body_of, player_body}
use Rattle.arena_map.specs.Maps.{MapView, solids_of}
use Rattle.trigger_rules.proofs.Walks.{blocked-among}
use Rattle.trigger_rules.proofs.touch.is_free.Goals as goal

-- the test of the map's solids, and of the others
by_map : (map : MapView) (tested body : Bounds) (solids : List Bounds) (blocked : Bool) → blocked ≡ is_blocked tested solids → tested ≡ body → solids ≡ solids_of map → blocked ≡ is_blocked body (solids_of map)
by_map map tested body solids blocked is same solids_are = is ∙ ap (λ (b : Bounds). is_blocked b solids) same ∙ ap (is_blocked body) solids_are

by_others : (near : List Rec) (tested body : Bounds) (blocked : Bool) → blocked ≡ list_any (λ r. is_solid r.kind && overlaps tested (body_of r)) near → tested ≡ body
    → blocked ≡ list_any (λ r. is_solid r.kind && overlaps body (body_of r)) near
by_others near tested body blocked is same = is ∙ ap (λ (b : Bounds). list_any (λ r. is_solid r.kind && overlaps b (body_of r)) near) same

second : (a b : Bool) → a ≡ false → not b ≡ not (a || b)
second false b h = refl
second true b h = cc

first : (a b : Bool) → a ≡ true → not a ≡ not (a || b)
first true b h = refl
first false b h = cc

pub returns-then-not-is_blocked : goal.returns-then-not-is_blocked
returns-then-not-is_blocked c =
    let body = player_body c.args.dest in
    let a = by_map c.args.map.now _ body _ c.is_blocked.result c.is_blocked.ensures c.player_box-body.ensures c.solids.ensures.value in
    let b = by_others c.args.near.now _ body c.is_blocked_by_solids.result c.is_blocked_by_solids.ensures c.player_box-body.ensures in
    let others = list_any (λ r. is_solid r.kind && overlaps body (body_of r)) c.args.near.now in
    ap not b ∙ second (is_blocked body (solids_of c.args.map.now)) others (sym a ∙ c.if-not-is_blocked.true) ∙ ap not (sym (blocked-among c.args.map.now c.args.near.now body))

pub returns-else-not-is_blocked : goal.returns-else-not-is_blocked
returns-else-not-is_blocked c =
    let body = player_body c.args.dest in
    let a = by_map c.args.map.now _ body _ c.is_blocked.result c.is_blocked.ensures c.player_box-body.ensures c.solids.ensures.value in
    let others = list_any (λ r. is_solid r.kind && overlaps body (body_of r)) c.args.near.now in
    ap not a ∙ first (is_blocked body (solids_of c.args.map.now)) others (sym a ∙ c.if-not-is_blocked.false) ∙ ap not (sym (blocked-among c.args.map.now c.args.near.now body))
