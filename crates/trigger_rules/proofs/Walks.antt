-- The walk over what a player touches, record by record.
use Rattle.std.proofs.Common.{◌≡◌, ℕ, suc, ◌<◌, Bool, true, false, ◌&&◌, ◌||◌, cond, List, [], ◌∷◌, length, filter, drop, drop-cons, get_or, fold, refl, sym, ap, ◌∙◌}
use Rattle.std.specs.Prelude.{map as map_list}
use Rattle.std.specs.List.{list_any}
use Rattle.std.proofs.lemmas.List.Folds.{fold_stays, list_any-append}
use Rattle.arena_geo.specs.Bounds.{Bounds}
use Rattle.arena_geo.specs.Boxes.{overlaps, is_blocked}
use Rattle.entity_recs.specs.declared.effect.NewState.{NewState}
use Rattle.entity_recs.specs.declared.rec.Rec.{Rec}
use Rattle.entity_recs.specs.Kinds.{is_solid}
use Rattle.entity_recs.specs.Bodies.{body_of}
use Rattle.arena_map.specs.Maps.{MapView, solids_of}
use Rattle.trigger_rules.specs.Touching.{bodies_of_solids, solids_among, Walk, walk_of, after_trigger}

-- ---- a teleporter

-- what is blocked by the bodies of the solids is blocked by that of one of them
any-of-solids : (body : Bounds) (near : List Rec) → is_blocked body (bodies_of_solids near) ≡ list_any (λ r. is_solid r.kind && overlaps body (body_of r)) near
any-of-solids body [] = refl
any-of-solids body (r ∷ near) = by (is_solid r.kind) ∙ ap (λ b. (is_solid r.kind && overlaps body (body_of r)) || b) (any-of-solids body near)
  where
    by : (solid : Bool) → is_blocked body (map_list body_of (cond solid (r ∷ filter (λ s. is_solid s.kind) near) (filter (λ s. is_solid s.kind) near)))
        ≡ ((solid && overlaps body (body_of r)) || is_blocked body (bodies_of_solids near))
    by true = refl
    by false = refl

-- what is blocked is blocked by the map or by a solid
pub blocked-among : (map : MapView) (near : List Rec) (body : Bounds)
    → is_blocked body (solids_among map near) ≡ (is_blocked body (solids_of map) || list_any (λ r. is_solid r.kind && overlaps body (body_of r)) near)
unfolding solids_among
blocked-among map near body =
    list_any-append (overlaps body) (solids_of map) (bodies_of_solids near) ∙ ap (λ b. is_blocked body (solids_of map) || b) (any-of-solids body near)

-- ---- the loop

-- a walk that has ended stays as it is
pub ended-stays : (map : MapView) (solids : List Bounds) (frame : ℕ) (me : Rec) (states : List NewState) (got : List ℕ) (more : List Rec)
    → fold (after_trigger map solids frame) (walk_of me states got true) more ≡ walk_of me states got true
ended-stays map solids frame me states got more = fold_stays (after_trigger map solids frame) (walk_of me states got true) (λ r. refl) more

-- a walk that ends at a record that is touched is the whole walk
pub ends-here : (map : MapView) (solids : List Bounds) (frame : ℕ) (test : Rec → Bool) (w all : Walk) (me : Rec) (states : List NewState) (got : List ℕ) (i : ℕ) (d : Rec) (near : List Rec)
    → i < length near → test (get_or near i d) ≡ true → walk_of me states got true ≡ after_trigger map solids frame w (get_or near i d)
    → fold (after_trigger map solids frame) w (filter test (drop i near)) ≡ all → walk_of me states got true ≡ all
ends-here map solids frame test w all me states got i d near below hit last so_far =
    let f = after_trigger map solids frame in
    let r = get_or near i d in
    let rest = filter test (drop (suc i) near) in
    sym (ended-stays map solids frame me states got rest)
    ∙ ap (λ (v : Walk). fold f v rest) last
    ∙ ap (λ (b : Bool). fold f w (cond b (r ∷ rest) rest)) (sym hit)
    ∙ ap (λ (l : List Rec). fold f w (filter test l)) (sym (drop-cons near i d below))
    ∙ so_far
