-- Moves, one after another, over records by id: the world after each, and that it is valid.
use Rattle.std.proofs.Common.{◌≡◌, ◌≢◌, ◌⊎◌, ℕ, ◌<◌, List, [], ◌∷◌, ◌++◌, Option, Some, None, is_some, slice_set, refl, sym, ap, ◌∙◌, subst, inl, inr, get_or-set_same, get_or-set_other}
use Rattle.std.specs.Prelude.{All}
use Rattle.std.proofs.lemmas.Bool.{cases_eq}
use Rattle.std.proofs.lemmas.List.{append-nil, append_assoc, length-set}
use Rattle.std.proofs.lemmas.List.Elements.{All-head, All-tail}
use Rattle.entity_recs.specs.declared.rec.Rec.{Rec}
use Rattle.entity_recs.specs.declared.kind.Kind.TheVariants.{Player}
use Rattle.entity_recs.specs.Commands.{Command}
use Rattle.entity_recs.specs.Worlds.{World, others_of, record_or_nobody}
use Rattle.entity_recs.specs.Histories.{apply, world_after, with_new_state}
use Rattle.arena_map.specs.Maps.{MapView, IsMap}
use Rattle.arena_map.specs.Validity.{IsValidRecord, IsValidWorld}
use Rattle.arena_outcomes.specs.Outcomes.{outcome_on}
use Rattle.world_tree.specs.Live.{record_at}
use Rattle.world_tree.proofs.LiveRecords.{live_below}
use Rattle.client_ports.proofs.Valid.{valid-with}
use Rattle.plain_server.specs.RecordsById.{world_of, records_in}
use Rattle.plain_server.specs.Moving.{HasLivePlayer, effect_among, with_new_states, records_after, HaveMoved}
use Rattle.plain_server.proofs.NewStates.{same_id, still_at, live-restated, count-restated, records_in-restated, valid-restated}
use Rattle.plain_server.proofs.ById.{records_in-set, records_in-world_of, world_of-with}
use Rattle.plain_server.proofs.OneMove.{valid_after_command}
use Rattle.plain_server.proofs.Players.{live_record, slot_is_player}
use Rattle.plain_server.proofs.Takes.{of_live}

-- after its move a live player's record is valid
pub moved_is_valid : (map : MapView) (records : List (Option Rec)) (c : Command) (r : Rec) → IsMap map → IsValidWorld map records → c.slot < 64
    → record_at records c.slot ≡ Some r → IsValidRecord map c.slot (effect_among map records c).me
moved_is_valid map records c r is_map valid below at =
    let here = valid.each c.slot r at in
    let me : record_or_nobody (record_at records c.slot) ≡ r = ap record_or_nobody at in
    let valid_there : IsValidRecord map c.slot (record_or_nobody (record_at records c.slot)) = subst (IsValidRecord map c.slot) (sym me) here in
    let kind : (record_or_nobody (record_at records c.slot)).kind ≡ Player = ap (λ (s : Rec). s.kind) me ∙ slot_is_player map c.slot r here below in
    valid_after_command map c.slot (record_or_nobody (record_at records c.slot)) (others_of (world_of records) c.slot) c is_map kind valid_there

-- before the first command
pub moved-none : (map : MapView) (records : List (Option Rec)) → IsValidWorld map records → HaveMoved map records records []
moved-none map records valid = record { world = refl; given = λ w. refl; live = λ id. refl; count = refl; valid = valid }

-- the world after commands and one more
pub world_after-more : (map : MapView) (w : World) (commands : List Command) (c : Command)
    → world_after (outcome_on map) w (commands ++ c ∷ []) ≡ apply (outcome_on map) (world_after (outcome_on map) w commands) c
world_after-more map w [] c = refl
world_after-more map w (d ∷ commands) c = world_after-more map (apply (outcome_on map) w d) commands c

live-set : (records : List (Option Rec)) (slot : ℕ) (r me : Rec) → record_at records slot ≡ Some r → (id : ℕ)
    → is_some (record_at (slice_set records slot (Some me)) id) ≡ is_some (record_at records id)
live-set records slot r me at id = by (cases_eq id slot)
  where
    by : (id ≡ slot) ⊎ (id ≢ slot) → is_some (record_at (slice_set records slot (Some me)) id) ≡ is_some (record_at records id)
    by (inl here) =
        ap (λ (k : ℕ). is_some (record_at (slice_set records slot (Some me)) k)) here
        ∙ ap is_some (get_or-set_same records slot (Some me) None (live_below records slot r at))
        ∙ sym (ap is_some at)
        ∙ sym (ap (λ (k : ℕ). is_some (record_at records k)) here)
    by (inr apart) = ap is_some (get_or-set_other records slot id (Some me) None apart)

-- one command more
pub moved-more : (map : MapView) (old new : List (Option Rec)) (commands : List Command) (c : Command) → IsMap map → HasLivePlayer new c
    → HaveMoved map old new commands → HaveMoved map old (records_after map new c) (commands ++ c ∷ [])
moved-more map old new commands c is_map has is =
    let found = live_record new c.slot has.live in
    let r = found.r in
    let at = found.at in
    let e = effect_among map new c in
    let me = moved_is_valid map new c r is_map is.valid has.slot at in
    let own : e.me.id ≡ r.id = me.own_id ∙ sym (is.valid.each c.slot r at).own_id in
    let ids = λ (id : ℕ) (x : Rec) (there : record_at new id ≡ Some x). (is.valid.each id x there).own_id in
    let items = of_live map new c ids in
    let states = with_new_states e.states new in
    let was = still_at e.states new c.slot r at in
    let same = own ∙ sym (same_id e.states r.id r) in
    let step : world_of (records_after map new c) ≡ apply (outcome_on map) (world_of new) c = world_of-with map new c.slot r e ids (live_below new c.slot r at) at own items in
    record {
      world = step ∙ ap (λ (w : World). apply (outcome_on map) w c) is.world ∙ sym (world_after-more map (world_of old) commands c);
      given = λ w. records_in-set w states c.slot (with_new_state e.states r.id r) e.me was same ∙ records_in-restated w e.states new ∙ is.given w;
      live = λ id. live-set states c.slot (with_new_state e.states r.id r) e.me was id ∙ live-restated e.states new id ∙ is.live id;
      count = length-set states c.slot (Some e.me) ∙ count-restated e.states new ∙ is.count;
      valid = valid-with map states c.slot e.me has.slot me (valid-restated map e.states new items is.valid);
    }

-- what the commands leave are the new records
pub moved-records : (map : MapView) (old new : List (Option Rec)) (commands : List Command) → HaveMoved map old new commands
    → records_in (world_after (outcome_on map) (world_of old) commands) old ≡ new
moved-records map old new commands is =
    ap (λ (w : World). records_in w old) (sym is.world)
    ∙ sym (is.given (world_of new))
    ∙ records_in-world_of new (λ id r at. (is.valid.each id r at).own_id)

-- a live player stays live
pub still-live : (map : MapView) (old new : List (Option Rec)) (commands : List Command) (c : Command) → HaveMoved map old new commands → HasLivePlayer old c → HasLivePlayer new c
still-live map old new commands c is has = record { slot = has.slot; live = is.live c.slot ∙ has.live }

-- the records after commands, one after another
abbrev pub after_all : MapView → List (Option Rec) → List Command → List (Option Rec)
after_all map records [] = records
after_all map records (c ∷ commands) = after_all map (records_after map records c) commands

moved-on : (map : MapView) (old new : List (Option Rec)) (before commands : List Command) → IsMap map → HaveMoved map old new before
    → All (HasLivePlayer old) commands → HaveMoved map old (after_all map new commands) (before ++ commands)
moved-on map old new before [] is_map is live = subst (λ (cs : List Command). HaveMoved map old new cs) (sym (append-nil before)) is
moved-on map old new before (c ∷ commands) is_map is live =
    let here = still-live map old new before c is (All-head (HasLivePlayer old) c commands live) in
    let more = moved-more map old new before c is_map here is in
    let rest = moved-on map old (records_after map new c) (before ++ c ∷ []) commands is_map more (All-tail (HasLivePlayer old) c commands live) in
    subst (λ (cs : List Command). HaveMoved map old (after_all map new (c ∷ commands)) cs) (append_assoc before (c ∷ []) commands) rest

-- moves of live players leave such records
pub moved : (map : MapView) (records : List (Option Rec)) (commands : List Command) → IsMap map → IsValidWorld map records → All (HasLivePlayer records) commands
    → HaveMoved map records (after_all map records commands) commands
moved map records commands is_map valid live = moved-on map records records [] commands is_map (moved-none map records valid) live

-- which are what the commands leave
pub after_all-are : (map : MapView) (records : List (Option Rec)) (commands : List Command) → IsMap map → IsValidWorld map records → All (HasLivePlayer records) commands
    → records_in (world_after (outcome_on map) (world_of records) commands) records ≡ after_all map records commands
after_all-are map records commands is_map valid live = moved-records map records (after_all map records commands) commands (moved map records commands is_map valid live)

-- and keep the world valid
pub moves_keep_valid : (map : MapView) (records : List (Option Rec)) (commands : List Command) → IsMap map → IsValidWorld map records
    → All (HasLivePlayer records) commands → IsValidWorld map (records_in (world_after (outcome_on map) (world_of records) commands) records)
moves_keep_valid map records commands is_map valid live =
    subst (IsValidWorld map) (sym (after_all-are map records commands is_map valid live)) (moved map records commands is_map valid live).valid
