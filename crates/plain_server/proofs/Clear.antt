-- The players keep room: moves end free of all solids.
use Rattle.std.specs.Prelude.{◌≡◌, ◌≢◌, ℕ, zero, suc, ◌+◌, ◌<◌, ◌==◌, true, false, not, List, ◌∷◌, ◌++◌, filter, All, Option, Some, None, if◌then◌else◌}
use Rattle.std.specs.Prelude.{map as map_list}
use Rattle.std.specs.List.{AllByRecursion}
use Rattle.std.proofs.Common.{refl, sym, ap, ◌∙◌, subst, inl, inr, arith, []}
use Rattle.std.proofs.lemmas.Bool.{cases_Bool, cases_order, eq-eqb, ne_eqb, or_parts}
use Rattle.std.proofs.lemmas.List.Folds.{list_any-append}
use Rattle.std.proofs.lemmas.List.Elements.{All-head, All-tail}
use Rattle.std.proofs.lemmas.Option.{same_Some}
use Rattle.arena_geo.specs.Bounds.{Bounds}
use Rattle.arena_geo.specs.Boxes.{overlaps, is_blocked}
use Rattle.arena_geo.proofs.Overlaps.{overlaps-flips}
use Rattle.entity_recs.specs.declared.kind.Kind.{Kind}
use Rattle.entity_recs.specs.declared.kind.Kind.TheVariants.{Player}
use Rattle.entity_recs.specs.declared.rec.Rec.{Rec}
use Rattle.entity_recs.specs.declared.effect.Entry.{Entry}
use Rattle.entity_recs.specs.declared.effect.NewState.{NewState}
use Rattle.entity_recs.specs.Records.{IsIdOf}
use Rattle.entity_recs.specs.Bodies.{body_of}
use Rattle.entity_recs.specs.Kinds.{is_solid}
use Rattle.entity_recs.specs.Commands.{Command}
use Rattle.entity_recs.specs.Worlds.{others_of, record_or_nobody}
use Rattle.entity_recs.specs.Histories.{Item}
use Rattle.move_journal.specs.Merges.{history_of}
use Rattle.arena_map.specs.Maps.{MapView, IsMap, solids_of}
use Rattle.arena_map.specs.Validity.{IsValidRecord, IsValidWorld}
use Rattle.arena_map.proofs.Opening.{IsFound, found-in}
use Rattle.trigger_rules.specs.Touching.{bodies_of_solids, solids_among}
use Rattle.world_tree.specs.Live.{record_at, live_in}
use Rattle.packet_read.specs.declared.arrival.Arrival.{Arrival}
use Rattle.client_ports.specs.States.{State, IsServerState}
use Rattle.client_ports.specs.Receiving.{Receiving}
use Rattle.arena_map.specs.Validity.{AreClear}
use Rattle.client_ports.proofs.Slots.{read-set}
use Rattle.client_ports.proofs.Staying.{clear_received, clear_finished}
use Rattle.plain_server.specs.RecordsById.{world_of, opening}
use Rattle.plain_server.specs.Moving.{HasLivePlayer, HaveMoved, effect_among, with_new_states, records_after}
use Rattle.plain_server.specs.Entries.{IsReception}
use Rattle.plain_server.specs.Frames.{state_after_tick, received_in, moved_by, state_after, first_of, rest_of, state_played}
use Rattle.plain_server.proofs.NewStates.{was_at, same_kind, same_body, clear-restated}
use Rattle.plain_server.proofs.OneMove.{free_after_command}
use Rattle.plain_server.proofs.Players.{IsLiveRecord, live_record, slot_is_player}
use Rattle.plain_server.proofs.Others.{each_live, all_but, others-are}
use Rattle.plain_server.proofs.Moves.{moved-none, moved-more, still-live, after_all, after_all-are}
use Rattle.plain_server.proofs.Ticking.{clear_ticked, server_ticked}
use Rattle.plain_server.proofs.Commands.{history_has}
use Rattle.plain_server.proofs.Frames.{received_is, state_after_is, opening_world, opening_is}
use Rattle.plain_server.proofs.Lifts.{solids_apart}

-- the body overlaps that of no solid among the records
abbrev IsApartFrom : Bounds → Rec → Type 0
IsApartFrom body r = is_solid r.kind ≡ true → overlaps body (body_of r) ≡ false

-- where a body overlaps that of no solid among records, none of these bodies blocks it
free_of_solids : (body : Bounds) (rs : List Rec) → AllByRecursion (IsApartFrom body) rs → is_blocked body (bodies_of_solids rs) ≡ false
free_of_solids body [] apart = refl
free_of_solids body (r ∷ rs) apart =
    let rest = free_of_solids body rs apart.1 in
    elim (cases_Bool (is_solid r.kind)) [
      | inl solid ↦ rw (solid, apart.0 solid) rest
      | inr e ↦ rw e rest
    ]

-- and where none of them blocks it, it overlaps that of no solid
apart_where_free : (body : Bounds) (rs : List Rec) → is_blocked body (bodies_of_solids rs) ≡ false → AllByRecursion (IsApartFrom body) rs
apart_where_free body [] free = tt
apart_where_free body (r ∷ rs) free = (here, apart_where_free body rs rest)
  where
    parts : is_solid r.kind ≡ true → (overlaps body (body_of r) ≡ false) × (is_blocked body (bodies_of_solids rs) ≡ false)
    parts solid = or_parts (overlaps body (body_of r)) (is_blocked body (bodies_of_solids rs)) (rw solid at free)

    here : IsApartFrom body r
    here solid = (parts solid).0

    rest : is_blocked body (bodies_of_solids rs) ≡ false
    rest = elim (cases_Bool (is_solid r.kind)) [
      | inl solid ↦ (parts solid).1
      | inr e ↦ rw e at free
    ]

-- what holds of the others after the first one
rest_of_all : (P : Rec → Type 0) (slot : ℕ) (x : Rec) (rs : List Rec) → AllByRecursion P (if not (x.id == slot) then x ∷ rs else rs) → AllByRecursion P rs
rest_of_all P slot x rs all = elim (cases_Bool (x.id == slot)) [ inl e ↦ rw e at all | inr e ↦ let both = rw e at all in both.1 ]

-- what holds of all of them holds of one at a place
but_at : (P : Rec → Type 0) (slot : ℕ) (records : List (Option Rec)) (k : ℕ) (r : Rec) → record_at records k ≡ Some r → (r.id == slot) ≡ false
    → AllByRecursion P (filter (λ (x : Rec). not (x.id == slot)) (live_in records)) → P r
but_at P slot [] k r at other all = cc
but_at P slot (None ∷ records) zero r at other all = cc
but_at P slot (None ∷ records) (suc k) r at other all = but_at P slot records k r at other all
but_at P slot (Some x ∷ records) zero r at other all =
    let same : x ≡ r = same_Some x r at in
    let differs : (x.id == slot) ≡ false = ap (λ (y : Rec). y.id == slot) same ∙ other in
    let both = rw differs at all in
    subst P same both.0
but_at P slot (Some x ∷ records) (suc k) r at other all = but_at P slot records k r at other (rest_of_all P slot x (filter (λ (y : Rec). not (y.id == slot)) (live_in records)) all)

-- ---- a move

module _ (map : MapView) (records : List (Option Rec)) (c : Command) (is_map : IsMap map) (valid : IsValidWorld map records) (has : HasLivePlayer records c) (clear : AreClear map records) where
  found : IsLiveRecord records c.slot
  found = live_record records c.slot has.live

  abbrev me : Rec
  me = record_or_nobody (record_at records c.slot)

  abbrev others : List Rec
  others = others_of (world_of records) c.slot

  me-is : me ≡ found.r
  me-is = ap record_or_nobody found.at

  others-listed : others ≡ filter (λ (r : Rec). not (r.id == c.slot)) (live_in records)
  others-listed = others-are records c.slot (λ id r at. (valid.each id r at).own_id)

  -- the player's body is apart from those of the other solids
  apart_before : AllByRecursion (IsApartFrom (body_of found.r)) others
  apart_before =
      subst (AllByRecursion (IsApartFrom (body_of found.r))) (sym others-listed)
      (all_but (IsApartFrom (body_of found.r)) c.slot (live_in records)
      (each_live (λ r. (r.id == c.slot) ≡ false → IsApartFrom (body_of found.r) r) records (λ k r at other solid.
      let here = valid.each c.slot found.r found.at in
      let own = ap is_solid (slot_is_player map c.slot found.r here has.slot) in
      clear.of_each_other c.slot k found.r r found.at at own solid (λ same. differs r other (same ∙ sym (valid.each k r at).own_id)))))
    where
      differs : (r : Rec) → (r.id == c.slot) ≡ false → c.slot ≡ r.id → ⊥
      differs r other same = true_false (sym (eq-eqb r.id c.slot (sym same)) ∙ other)
        where
          true_false : true ≡ false → ⊥
          true_false h = cc

  free_before : is_blocked (body_of me) (solids_among map others) ≡ false
  unfolding solids_among
  free_before =
      let fixed = clear.of_the_map c.slot found.r found.at (slot_is_player map c.slot found.r (valid.each c.slot found.r found.at) has.slot) in
      let moving = free_of_solids (body_of found.r) others apart_before in
      subst (λ (r : Rec). is_blocked (body_of r) (solids_of map ++ bodies_of_solids others) ≡ false) (sym me-is)
      (list_any-append (overlaps (body_of found.r)) (solids_of map) (bodies_of_solids others) ∙ rw (fixed, moving) refl)

  abbrev after : Rec
  after = (effect_among map records c).me

  free_then : is_blocked (body_of after) (solids_among map others) ≡ false
  free_then =
      let here : IsValidRecord map c.slot me = subst (IsValidRecord map c.slot) (sym me-is) (valid.each c.slot found.r found.at) in
      free_after_command map c.slot me others c (slot_is_player map c.slot me here has.slot) here free_before

  free_after : (is_blocked (body_of after) (solids_of map) ≡ false) × (is_blocked (body_of after) (bodies_of_solids others) ≡ false)
  unfolding solids_among
  free_after =
      or_parts (is_blocked (body_of after) (solids_of map)) (is_blocked (body_of after) (bodies_of_solids others))
      (sym (list_any-append (overlaps (body_of after)) (solids_of map) (bodies_of_solids others)) ∙ free_then)

  -- after the move it is apart from each other live solid
  apart_after : (k : ℕ) (r : Rec) → record_at records k ≡ Some r → k ≢ c.slot → is_solid r.kind ≡ true → overlaps (body_of after) (body_of r) ≡ false
  apart_after k r at other =
      but_at (IsApartFrom (body_of after)) c.slot records k r at (ne_eqb r.id c.slot (λ same. other (sym (valid.each k r at).own_id ∙ same)))
      (subst (AllByRecursion (IsApartFrom (body_of after))) others-listed (apart_where_free (body_of after) others free_after.1))

  abbrev states : List NewState
  states = (effect_among map records c).states

  -- so it is from each of them with its new state
  apart_from_each : (k : ℕ) (r : Rec) → record_at (with_new_states states records) k ≡ Some r → k ≢ c.slot → is_solid r.kind ≡ true → overlaps (body_of after) (body_of r) ≡ false
  apart_from_each k r at other solid =
      let before = was_at states records k r at in
      let was = before.was in
      let kind : was.kind ≡ r.kind = sym (same_kind states was.id was) ∙ ap (λ (x : Rec). x.kind) before.is in
      let body : body_of was ≡ body_of r = sym (same_body states was.id was) ∙ ap body_of before.is in
      ap (overlaps (body_of after)) (sym body) ∙ apart_after k was before.at other (ap is_solid kind ∙ solid)

  -- the records after it are clear
  pub clear_after : AreClear map (records_after map records c)
  clear_after =
      let rest = clear-restated map states records clear in
      let set = read-set (with_new_states states records) c.slot in
      record {
        of_the_map = λ id r at kind. elim (set id (Some after)) [
          | inl there ↦ subst (λ (x : Rec). is_blocked (body_of x) (solids_of map) ≡ false) (same_Some after r (sym there.2 ∙ at)) free_after.0
          | inr kept ↦ rest.of_the_map id r (sym kept ∙ at) kind
        ];
        of_each_other = λ i j r s at_i at_j solid_r solid_s differ. elim (set i (Some after)) [
          | inl here ↦ elim (set j (Some after)) [
            | inl there ↦ absurd (differ (here.0 ∙ sym there.0))
            | inr kept ↦
                subst (λ (x : Rec). overlaps (body_of x) (body_of s) ≡ false) (same_Some after r (sym here.2 ∙ at_i))
                (apart_from_each j s (sym kept ∙ at_j) (λ same. differ (here.0 ∙ sym same)) solid_s)
          ]
          | inr kept ↦ elim (set j (Some after)) [
            | inl there ↦
                overlaps-flips (body_of r) (body_of s)
                ∙ subst (λ (x : Rec). overlaps (body_of x) (body_of r) ≡ false) (same_Some after s (sym there.2 ∙ at_j))
                (apart_from_each i r (sym kept ∙ at_i) (λ same. differ (same ∙ sym there.0)) solid_r)
            | inr also ↦ rest.of_each_other i j r s (sym kept ∙ at_i) (sym also ∙ at_j) solid_r solid_s differ
          ]
        ];
      }

-- ---- all moves and all frames

-- the records after commands of live players are clear
clear_after_all : (map : MapView) (old new : List (Option Rec)) (before commands : List Command) → IsMap map → HaveMoved map old new before → All (HasLivePlayer old) commands
    → AreClear map new → AreClear map (after_all map new commands)
clear_after_all map old new before [] is_map moved live clear = clear
clear_after_all map old new before (c ∷ commands) is_map moved live clear =
    let has = still-live map old new before c moved (All-head (HasLivePlayer old) c commands live) in
    let more = moved-more map old new before c is_map has moved in
    clear_after_all map old (records_after map new c) (before ++ c ∷ []) commands is_map more (All-tail (HasLivePlayer old) c commands live)
    (clear_after map new c is_map moved.valid has clear)

-- so are those after the moves of a journal
clear_moved : (map : MapView) (r : Receiving) (journal : List Entry) → IsMap map → IsReception map r → AreClear map r.state.records → AreClear map (moved_by map r journal).records
clear_moved map r journal is_map is clear =
    let records = r.state.records in
    let commands = map_list (λ (item : Item). item.command) (history_of r.lists.moves journal) in
    let live = history_has (HasLivePlayer records) r.lists.moves journal is.live in
    subst (AreClear map) (sym (after_all-are map records commands is_map is.state.fits.valid live))
    (clear_after_all map records records [] commands is_map (moved-none map records is.state.fits.valid) live clear)

-- and those after the moves of a frame that begins clear
pub clear_shown : (map : MapView) (frame : ℕ) (state : State) (arrivals : List Arrival) (journal : List Entry) → IsMap map → IsServerState map state → AreClear map state.records
    → AreClear map (moved_by map (received_in map frame state arrivals) journal).records
clear_shown map frame state arrivals journal is_map is clear =
    clear_moved map (received_in map frame state arrivals) journal is_map (received_is map frame state arrivals is_map is)
    (clear_received map frame (state_after_tick map frame state) arrivals is_map (server_ticked map frame state is_map is) (clear_ticked map frame state is_map is clear))

-- so are those after any frames
pub clear_through : (map : MapView) (frame : ℕ) (state : State) (frames : List (List Arrival)) (journals : List (List Entry)) → IsMap map → IsServerState map state → AreClear map state.records
    → AreClear map (state_played map frame state frames journals).records
clear_through map frame state [] journals is_map is clear = clear
clear_through map frame state (arrivals ∷ frames) journals is_map is clear =
    let r = received_in map frame state arrivals in
    let pass = received_is map frame state arrivals is_map is in
    let moved = clear_shown map frame state arrivals (first_of journals) is_map is clear in
    clear_through map (frame + 1) (state_after map r (first_of journals)) frames (rest_of journals) is_map (state_after_is map r (first_of journals) is_map pass)
    (clear_finished map (moved_by map r (first_of journals)) moved)

-- ---- at the start

-- the thing of a place of the opening world
opening_thing : (map : MapView) (id : ℕ) (r : Rec) → IsMap map → record_at (opening map).records id ≡ Some r → IsFound map.bounds 64 map.things id r
opening_thing map id r is at = found-in map id r is (sym (opening_world map is id) ∙ at)

-- no player is there
opening_lacks : (map : MapView) (id : ℕ) (r : Rec) → IsMap map → record_at (opening map).records id ≡ Some r → r.kind ≡ Player → ⊥
opening_lacks map id r is at kind =
    let here = (opening_is map is).fits.valid.each id r at in
    let slot : r.id < 64 = subst (λ (k : Kind). IsIdOf k r.id) kind here.is_record.id in
    omega (arith, slot, here.own_id, (opening_thing map id r is at).low)

-- where only the things of the map are live all have room
pub opening_clear : (map : MapView) → IsMap map → AreClear map (opening map).records
opening_clear map is = record {
  of_the_map = λ id r at kind. absurd (opening_lacks map id r is at kind);
  of_each_other = λ i j r s at_i at_j solid_r solid_s differ. elim (cases_order i j) [
    | inl same ↦ absurd (differ same)
    | inr other ↦ elim other [
      | inl before ↦ solids_apart map i j r s is (opening_thing map i r is at_i) (opening_thing map j s is at_j) solid_r solid_s before
      | inr after ↦
          overlaps-flips (body_of r) (body_of s)
          ∙ solids_apart map j i s r is (opening_thing map j s is at_j) (opening_thing map i r is at_i) solid_s solid_r after
    ]
  ];
}
