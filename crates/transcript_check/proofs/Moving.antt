-- One move over all other live records.
use Rattle.std.proofs.Common.{◌≡◌, ℕ, ◌<◌, ◌^◌, List, [], ◌∷◌, map, Option, Some, is_some, slice_set, sym, ap, ◌∙◌, subst, arith}
use Rattle.std.specs.Prelude.{All, IsSome}
use Rattle.std.specs.List.{AllByRecursion}
use Rattle.std.specs.List.Sorted.{IsStrictlyIncreasing}
use Rattle.std.proofs.lemmas.List.Elements.{All-from_recursion}
use Rattle.entity_recs.specs.declared.rec.Rec.{Rec}
use Rattle.entity_recs.specs.declared.effect.Effect.{Effect}
use Rattle.entity_recs.specs.Records.{IsRecord}
use Rattle.entity_recs.specs.Commands.{Command}
use Rattle.entity_recs.specs.Worlds.{others_of, record_or_nobody}
use Rattle.arena_map.specs.Maps.{MapView, IsMap}
use Rattle.arena_map.specs.Validity.{IsValidWorld}
use Rattle.arena_outcomes.specs.Outcomes.{outcome_on}
use Rattle.trigger_rules.specs.Laws.{IsPlayerOn}
use Rattle.world_tree.specs.Live.{record_at, AreEntries}
use Rattle.world_tree.specs.Worlds.{WorldView, with_record, without_id}
use Rattle.world_physics.proofs.Changes.{relinked}
use Rattle.plain_server.specs.RecordsById.{world_of}
use Rattle.plain_server.specs.Moving.{effect_among, with_new_states, records_with, records_after}
use Rattle.plain_server.proofs.Moves.{moved_is_valid}
use Rattle.plain_server.proofs.NewStates.{live-restated}
use Rattle.plain_server.proofs.Others.{IsOther, others_at, others_rise}
use Rattle.plain_server.proofs.Players.{slot_is_player}

-- a live player of a valid world is a player on its map
pub player-on : (map_view : MapView) (records : List (Option Rec)) (slot : ℕ) (me : Rec) → IsValidWorld map_view records → slot < 64 → record_at records slot ≡ Some me → me.score < 2 ^ 32
    → IsPlayerOn map_view me
player-on map_view records slot me valid below at score =
    let here = valid.each slot me at in
    let kind = slot_is_player map_view slot me here below in
    record { kind = kind; is_record = here.is_record; score = omega (arith, score); inside = here.inside kind }

each-record : (records : List (Option Rec)) (slot : ℕ) (rs : List Rec) → AreEntries records → AllByRecursion (IsOther records slot) rs → AllByRecursion IsRecord rs
each-record records slot [] entries all = tt
each-record records slot (r ∷ rs) entries all = ((entries r.id r all.0.at).is_record, each-record records slot rs entries all.1)

-- the others are records, in rising id
pub others-records : (records : List (Option Rec)) (slot : ℕ) (others : List Rec) → AreEntries records → others ≡ others_of (world_of records) slot → All IsRecord others
others-records records slot others entries is =
    subst (All IsRecord) (sym is)
    (All-from_recursion IsRecord (others_of (world_of records) slot)
    (each-record records slot (others_of (world_of records) slot) entries (others_at records slot (λ id r at. (entries id r at).own_id))))

pub others-rising : (records : List (Option Rec)) (slot : ℕ) (others : List Rec) → AreEntries records → others ≡ others_of (world_of records) slot → IsStrictlyIncreasing (map (λ (r : Rec). r.id) others)
others-rising records slot others entries is =
    subst (λ (rs : List Rec). IsStrictlyIncreasing (map (λ (r : Rec). r.id) rs)) (sym is) (others_rise records slot (λ id r at. (entries id r at).own_id))

-- what the action does over them is the effect of the command among all records
pub effect-is : (map_view : MapView) (records : List (Option Rec)) (c : Command) (me : Rec) (others : List Rec) (e : Effect) → record_at records c.slot ≡ Some me → others ≡ others_of (world_of records) c.slot
    → e ≡ outcome_on map_view me others c → e ≡ effect_among map_view records c
effect-is map_view records c me others e at is done =
    done
    ∙ ap (λ (rs : List Rec). outcome_on map_view me rs c) is
    ∙ ap (λ (o : Option Rec). outcome_on map_view (record_or_nobody o) (others_of (world_of records) c.slot) c) (sym at)

-- the player after its move is a record, with the id of its slot
pub record AfterMove (map_view : MapView) (records : List (Option Rec)) (c : Command) (e : Effect) : Type 0 where
  pub is_record : IsRecord e.me
  pub own : e.me.id ≡ c.slot

pub after-move : (map_view : MapView) (records : List (Option Rec)) (c : Command) (me : Rec) (e : Effect) → IsMap map_view → IsValidWorld map_view records → c.slot < 64 → record_at records c.slot ≡ Some me
    → e ≡ effect_among map_view records c → AfterMove map_view records c e
after-move map_view records c me e is_map valid below at is =
    let here = moved_is_valid map_view records c me is_map valid below at in
    record { is_record = subst (λ (f : Effect). IsRecord f.me) (sym is) here.is_record; own = ap (λ (f : Effect). f.me.id) is ∙ here.own_id }

-- it is still live where others have new states
pub still-there : (map_view : MapView) (old now : List (Option Rec)) (c : Command) (e : Effect) (next : ℕ) → now ≡ with_new_states e.states old → next ≡ c.slot → IsSome (record_at old c.slot) → IsSome (record_at now next)
still-there map_view old now c e next is own some =
    ap (λ (rs : List (Option Rec)). is_some (record_at rs next)) is ∙ live-restated e.states old next ∙ ap (λ (k : ℕ). is_some (record_at old k)) own ∙ some

-- the records after the move
pub records-are : (map_view : MapView) (old : List (Option Rec)) (c : Command) (e : Effect) (w new : WorldView) → e ≡ effect_among map_view old c → w.records ≡ with_new_states e.states old → e.me.id ≡ c.slot
    → new ≡ with_record (without_id w e.me.id) e.me → new.records ≡ records_after map_view old c
records-are map_view old c e w new is states own made =
    ap (λ (v : WorldView). v.records) made
    ∙ relinked w.records e.me.id e.me
    ∙ ap (λ (k : ℕ). slice_set w.records k (Some e.me)) own
    ∙ ap (λ (rs : List (Option Rec)). slice_set rs c.slot (Some e.me)) states
    ∙ ap (λ (f : Effect). records_with old c.slot f) is
