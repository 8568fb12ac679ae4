-- Nothing is refused where there are places.
use Rattle.std.proofs.Common.{◌≡◌, ℕ, zero, suc, ◌+◌, ◌-◌, ◌^◌, ◌≤◌, ◌<◌, Bool, true, false, ◌&&◌, List, [], ◌∷◌, ◌++◌, length, map, Option, Some, None, refl, sym, ap, ◌∙◌, subst, inl, inr, arith, length-append, lit<}
use Rattle.std.specs.Prelude.{◌==◌}
use Rattle.std.specs.List.{find, range_with_len}
use Rattle.std.proofs.lemmas.Bool.{cases_lt}
use Rattle.arena_geo.specs.Bounds.{Bounds}
use Rattle.arena_geo.specs.Boxes.{overlaps, overlaps_on}
use Rattle.entity_recs.specs.declared.limits.TheConstants.{IDS}
use Rattle.entity_recs.specs.declared.rec.Rec.{Rec}
use Rattle.entity_recs.specs.Bodies.{body_of}
use Rattle.entity_recs.specs.Kinds.{is_solid}
use Rattle.entity_recs.specs.Worlds.{nobody}
use Rattle.arena_map.specs.declared.lift.Lift.{Lift}
use Rattle.arena_map.specs.Maps.{MapView, entities_of, lift_of}
use Rattle.arena_map.specs.Validity.{IsValidWorld, IsAsItsLine, IsThing}
use Rattle.world_tree.specs.Live.{record_at}
use Rattle.client_ports.specs.States.{State, with_newcomer}
use Rattle.client_ports.specs.Lists.{no_lists, with_join}
use Rattle.client_ports.specs.Receiving.{Receiving, receiving_of, after_join, after_arrivals, after_arrival, received}
use Rattle.demo_make.specs.Words.{word_at}
use Rattle.demo_make.specs.GeneratedFrames.{join_from, ports}
use Rattle.demo_make.specs.Accepting.{ArePlaying, IsPlayed}
use Rattle.demo_make.proofs.Accepted.{after_arrivals-append}
use Rattle.demo_walk.specs.Places.{share_a_column, is_by_lift, is_place, places_of}
use Rattle.demo_walk.specs.WalkedFrames.{joined_by, joined_before, words_before, joins_in, moves_in, walked_in}
use Rattle.demo_walk.specs.Accepting.{NothingIsRefused}
use Rattle.demo_walk.proofs.Schedules.{joined-few, enough-places, first-places}
use Rattle.demo_walk.proofs.PlaceParts.{body_at, spawn_of, place-at, none-passes}
use Rattle.demo_walk.proofs.Joining.{first-of, AreJoined, joins-next}
use Rattle.demo_walk.proofs.Moving.{sent, AreMoved, moves-played}

-- ---- lifts

-- what is the same of a thing and its record, wherever it is along z
record IsAlike (thing r : Rec) : Type 0 where
  kind : r.kind ≡ thing.kind
  x : r.origin.x ≡ thing.origin.x
  y : r.origin.y ≡ thing.origin.y
  mins : r.mins ≡ thing.mins
  maxs : r.maxs ≡ thing.maxs

alike : (lift : Option Lift) (thing r : Rec) → IsAsItsLine lift thing r → IsAlike thing r
alike None thing r is = record { kind = is.kind; x = ap (λ o. o.x) is.origin; y = ap (λ o. o.y) is.origin; mins = is.mins; maxs = is.maxs }
alike (Some lift) thing r is = record { kind = is.kind; x = is.x; y = is.y; mins = is.mins; maxs = is.maxs }

column-alike : (body : Bounds) (thing r : Rec) → IsAlike thing r → share_a_column body (body_of r) ≡ share_a_column body (body_of thing)
column-alike body thing r like = rw like.x (rw like.y (rw like.mins (rw like.maxs refl)))

pub apart-column : (one other : Bounds) → share_a_column one other ≡ false → overlaps one other ≡ false
apart-column one other none =
    by (overlaps_on one.lo.x one.hi.x other.lo.x other.hi.x) (overlaps_on one.lo.y one.hi.y other.lo.y other.hi.y)
    (overlaps_on one.lo.z one.hi.z other.lo.z other.hi.z) none
  where
    by : (x y z : Bool) → (x && y) ≡ false → (x && y && z) ≡ false
    by false y z h = refl
    by true false z h = refl
    by true true z h = cc

-- no solid of a valid world without players is at a place
solid-apart : (m : MapView) (records : List (Option Rec)) → IsValidWorld m records → ((slot : ℕ) → slot < 64 → record_at records slot ≡ None)
    → (id : ℕ) (r : Rec) → record_at records id ≡ Some r → is_solid r.kind ≡ true → (q : ℕ) → is_place m q ≡ true
    → overlaps (body_at m q) (body_of r) ≡ false
solid-apart m records valid nobody_there id r e solid q place = elim (cases_lt id 64) [
  | inl below ↦ absurd (none_some r (sym (nobody_there id below) ∙ e))
  | inr above ↦ at (find (λ (thing : Rec). thing.id == id) (entities_of m)) refl
      (subst (IsThing m (find (λ (thing : Rec). thing.id == id) (entities_of m))) e (valid.things id above))
]
  where
    none_some : (r : Rec) → None ≡ Some r → ⊥
    none_some r h = cc

    column : (kind share : Bool) → kind ≡ true → (kind && share) ≡ false → share ≡ false
    column true share is h = h
    column false share is h = cc

    at : (thing : Option Rec) → find (λ (thing : Rec). thing.id == id) (entities_of m) ≡ thing → IsThing m thing (Some r)
        → overlaps (body_at m q) (body_of r) ≡ false
    at None f is = absurd is
    at (Some thing) f is =
        let like = alike (lift_of m thing.id) thing r is in
        let first = first-of (λ (thing : Rec). thing.id == id) (entities_of m) nobody thing f in
        let none = sym (ap (is_by_lift (body_at m q)) first.is)
        ∙ none-passes (is_by_lift (body_at m q)) (entities_of m) first.at nobody (place-at m q place).no_lift first.within in
        let kind : is_solid thing.kind ≡ true = sym (ap is_solid like.kind) ∙ solid in
        apart-column (body_at m q) (body_of r)
        (column-alike (body_at m q) thing r like ∙ column (is_solid thing.kind) (share_a_column (body_at m q) (body_of thing)) kind none)

-- ---- the joins

-- so many more have joined, and nothing else came
record AfterJoins (m : MapView) (before n : ℕ) (r next : Receiving) : Type 0 where
  sites : List ℕ
  count : length sites ≡ before + n
  state : AreJoined m sites next.state
  refused : next.lists.refused ≡ r.lists.refused
  moves : next.lists.moves ≡ r.lists.moves
  joined : length next.lists.joined ≡ length r.lists.joined + n

joins-run : (m : MapView) (n : ℕ) (sites : List ℕ) (r : Receiving) (place : ℕ) → AreJoined m sites r.state → length sites + n ≤ 64
    → length sites + n ≤ places_of m
    → AfterJoins m (length sites) n r (after_arrivals m 0 r place (map join_from (range_with_len (length sites + 1) n)))
joins-run m zero sites r place are few places =
    record { sites = sites; count = omega arith; state = are; refused = refl; moves = refl; joined = omega arith }
joins-run m (suc n) sites r place are few places =
    let k = length sites in
    let step = joins-next m sites r.state are (omega (arith, few)) (omega (arith, places)) in
    let next = receiving_of (with_newcomer r.state (k + 1) k (spawn_of m step.site)) (with_join r.lists (k + 1) k) in
    let first : after_arrival m 0 r place (join_from (k + 1)) ≡ next = ap (λ answer. after_join answer r place (k + 1)) step.answer in
    let more = sites ++ step.site ∷ [] in
    let count : length more ≡ k + 1 = omega (arith, length-append sites (step.site ∷ [])) in
    let rest = joins-run m n more next (place + 1) step.next (omega (arith, count, few)) (omega (arith, count, places)) in
    let P : ℕ → Receiving → Type 0 = λ j s. AfterJoins m k (suc n) r (after_arrivals m 0 s (place + 1) (map join_from (range_with_len (j + 1) n))) in
    subst (P (k + 1)) (sym first)
    (subst (λ j. P j next) count
    (record {
      sites = rest.sites;
      count = omega (arith, rest.count, count);
      state = rest.state;
      refused = rest.refused;
      moves = rest.moves;
      joined = omega (arith, rest.joined, length-append r.lists.joined (record { port = k + 1; slot = k } ∷ []));
    }))

-- ---- frames

abbrev words_in : ℕ → ℕ → ℕ → ℕ → ℕ → ℕ
words_in seed players places frame port = word_at seed (words_before places players frame + (port - 1))

first-frame : (m : MapView) (seed players : ℕ) (state : State) → players ≤ 64 → IsValidWorld m state.records
    → ((slot : ℕ) → slot < 64 → record_at state.records slot ≡ None) → ArePlaying 0 0 state.clients → length state.records ≡ IDS
    → IsPlayed (joined_by (places_of m) players 0) (joined_by (places_of m) players 0) 1 (received m 0 state (walked_in seed players (places_of m) 0))
unfolding received
first-frame m seed players state few valid nobody_there nobody_plays many =
    let places = places_of m in
    let by = joined_by places players 0 in
    let start = receiving_of state no_lists in
    let none_yet : AreJoined m [] state = record {
      slots = nobody_plays.slots;
      joined = λ slot below. absurd (omega arith);
      free = nobody_plays.free;
      records = many;
      players = λ slot below. absurd (omega arith);
      apart = λ q place none slot below. absurd (omega arith);
      others = λ id _ r e solid q place. solid-apart m state.records valid nobody_there id r e solid q place;
    } in
    let less : by - 0 ≡ by = omega arith in
    let joins = joins_in players places 0 in
    let run = joins-run m (by - 0) [] start 0 none_yet (omega (arith, less, joined-few places players 0, few)) (omega (arith, less, first-least places players)) in
    let after = after_arrivals m 0 start 0 joins in
    let count : length run.sites ≡ by = omega (arith, run.count, less) in
    let waiting : AreMoved by 0 1 0 after.state.clients = record {
      slots = run.state.slots;
      done = λ slot below. absurd (omega arith);
      waiting = λ slot _ below. run.state.joined slot (omega (arith, below, count));
      free = λ slot above. run.state.free slot (omega (arith, above, count));
    } in
    let joined : length after.lists.joined ≡ by = omega (arith, run.joined, less) in
    subst (IsPlayed by by 1) (sym (after_arrivals-append m 0 start 0 joins (moves_in seed players places 0)))
    (moves-played m (words_in seed players places 0) by 0 0 by after (0 + length joins) waiting (omega (arith, joined-few places players 0, few)) (omega arith) (lit< tt)
    run.refused joined run.moves)
  where
    first-least : (places players : ℕ) → joined_by places players 0 ≤ places
    first-least places players = elim (cases_lt players places) [
      | inl more ↦ omega (arith, enough-places places players 0 (omega arith))
      | inr fewer ↦ omega (arith, first-places places players fewer)
    ]

later-frame : (m : MapView) (seed players frame : ℕ) (state : State) → players ≤ 64 → players ≤ places_of m → 0 < frame → frame + 1 < 2 ^ 32
    → ArePlaying players frame state.clients → length state.records ≡ IDS
    → IsPlayed players 0 (frame + 1) (received m frame state (walked_in seed players (places_of m) frame))
unfolding received
later-frame m seed players zero state few enough later small playing many = absurd (omega arith)
later-frame m seed players (suc before) state few enough later small playing many =
    let places = places_of m in
    let frame = suc before in
    let start = receiving_of state no_lists in
    let waiting : AreMoved players frame (frame + 1) 0 state.clients = record {
      slots = playing.slots;
      done = λ slot below. absurd (omega arith);
      waiting = λ slot _ below. playing.joined slot below;
      free = playing.free;
    } in
    let all = enough-places places players frame enough in
    let all_before = enough-places places players before enough in
    let none : joined_by places players frame - joined_before places players frame ≡ 0 = omega (arith, all, all_before) in
    let joins : joins_in players places frame ≡ [] = ap (λ n. map join_from (range_with_len (joined_before places players frame + 1) n)) none in
    let arrivals : walked_in seed players places frame ≡ map (sent (words_in seed players places frame) frame) (ports players) =
    ap (λ js. js ++ moves_in seed players places frame) joins
    ∙ ap (λ n. map (sent (words_in seed players places frame) frame) (ports n)) all in
    rw arrivals
    (moves-played m (words_in seed players places frame) players frame frame 0 start 0 waiting few (omega arith) small refl refl refl)

pub nothing_is_refused : NothingIsRefused
nothing_is_refused = record { first = first-frame; later = later-frame }
