-- Which states players may have after so many frames: nobody is down for long.
use Rattle.std.proofs.Common.{◌≡◌, ℕ, ◌+◌, ◌-◌, ◌<◌, ◌≤◌, nat_le, nat_lt, Bool, true, false, cond, ◌&&◌, if◌then◌else◌, List, [], ◌∷◌, length, Option, Some, None, is_some, inl, inr, refl, sym, ap, ◌∙◌, subst, arith}
use Rattle.std.specs.Prelude.{All}
use Rattle.std.proofs.lemmas.Bool.{cases_lt}
use Rattle.std.proofs.lemmas.Bool.Decides.{nat_tests}
use Rattle.std.proofs.lemmas.List.Elements.{All-head, All-tail, All-weaker}
use Rattle.std.proofs.lemmas.Option.{none-some, same_Some}
use Rattle.entity_recs.specs.declared.rec.Rec.{Rec}
use Rattle.entity_recs.specs.declared.effect.Effect.{Effect}
use Rattle.entity_recs.specs.declared.effect.Entry.{Entry}
use Rattle.entity_recs.specs.Commands.{Command}
use Rattle.entity_recs.specs.Histories.{with_new_state, commands_of}
use Rattle.move_journal.specs.Merges.{history_of}
use Rattle.arena_map.specs.Maps.{MapView, IsMap}
use Rattle.arena_map.specs.Validity.{IsValidWorld}
use Rattle.shot_rules.specs.Shots.{is_down}
use Rattle.world_tree.specs.Live.{record_at}
use Rattle.packet_read.specs.declared.arrival.Arrival.{Arrival}
use Rattle.client_ports.specs.Clients.{client_at}
use Rattle.client_ports.specs.States.{State, IsServerState}
use Rattle.client_ports.specs.Finishing.{is_leaver, finished}
use Rattle.client_ports.proofs.Leavers.{leavers_out}
use Rattle.client_ports.proofs.Slots.{client_count, read-set}
use Rattle.plain_server.specs.RecordsById.{opening}
use Rattle.plain_server.specs.Moving.{HasLivePlayer, effect_among, with_new_states, records_after}
use Rattle.plain_server.specs.Frames.{state_after_tick, received_in, moved_by, state_after, first_of, rest_of, state_played}
use Rattle.plain_server.specs.Hits.{state_after_move, IsStateAfter, Stands, HasFallen, HaveStatesAfter, NobodyIsDownForLong}
use Rattle.plain_server.proofs.Hits.{IsHitState, wounded, fallen}
use Rattle.plain_server.proofs.Players.{live_record}
use Rattle.plain_server.proofs.NewStates.{was_at}
use Rattle.plain_server.proofs.States.{IsHitOrNot, IsHit, IsLeft, hit_or_not, mover_state}
use Rattle.plain_server.proofs.Moves.{moved-none, moved-more, still-live, after_all, after_all-are}
use Rattle.plain_server.proofs.Commands.{history_has}
use Rattle.plain_server.proofs.OfFrame.{IsOfFrame, moves_are_of_frame}
use Rattle.plain_server.proofs.Begun.{frames_begin}
use Rattle.plain_server.proofs.Frames.{moved_by_is, received_is, state_after_is, opening_is, opening_nobody, played_is}

-- ---- one state

-- no state is far above the number of frames
most_state : (frames state : ℕ) → IsStateAfter frames state → state < 140 + frames
most_state frames state (Stands hits few is) = omega (arith, few, is)
most_state frames state (HasFallen frame before is) = omega (arith, before, is)

-- so 40 frames later nobody is down
not_down : (later state : ℕ) → state - 100 ≤ later → (nat_le 100 state && nat_lt later (state - 100)) ≡ false
not_down later state since = grind (arith, nat_tests)

up_again : (frames later : ℕ) (r : Rec) → IsStateAfter frames r.state → frames + 39 ≤ later → is_down r later ≡ false
up_again frames later r is past = let most = most_state frames r.state is in not_down later r.state (omega (arith, most, past))

later_state : (frames state : ℕ) → IsStateAfter frames state → IsStateAfter (frames + 1) state
later_state frames state (Stands hits few is) = Stands hits few is
later_state frames state (HasFallen frame before is) = HasFallen frame (omega (arith, before)) is

zero_state : (frames : ℕ) → IsStateAfter frames 0
zero_state frames = Stands 0 (omega arith) refl

-- a hit in the last frame makes such a state
state_hit : (frame before after : ℕ) → IsStateAfter (frame + 1) before → IsHitState frame before after → IsStateAfter (frame + 1) after
state_hit frame before after (Stands hits few is) hit = elim (cases_lt (before + 25) 100) [
  | inl below ↦ Stands (hits + 1) (omega (arith, is, below)) (hit.state_is ∙ wounded frame before below ∙ omega (arith, is))
  | inr past ↦ HasFallen frame (omega arith) (hit.state_is ∙ fallen frame before past)
]
state_hit frame before after (HasFallen fell earlier is) hit = let standing = hit.standing in absurd (omega (arith, standing, is))

-- and so does a player's own move
state_moved : (frames frame state : ℕ) → IsStateAfter frames state → IsStateAfter frames (state_after_move frame state)
state_moved frames frame state is = by (nat_le 100 state && nat_le (state - 100) frame)
  where
    by : (rises : Bool) → IsStateAfter frames (cond rises 0 state)
    by true = zero_state frames
    by false = is

-- ---- a command

module _ (map : MapView) (records : List (Option Rec)) (c : Command) (valid : IsValidWorld map records) (has : HasLivePlayer records c) where
  abbrev effect : Effect
  effect = effect_among map records c

  -- another player's state is such a one after the command
  other_after : (slot : ℕ) (was r : Rec) → slot < 64 → record_at records slot ≡ Some was → with_new_state effect.states slot was ≡ r
      → IsStateAfter (c.frame + 1) was.state → IsStateAfter (c.frame + 1) r.state
  other_after slot was r below at is before = by (hit_or_not map records c valid has slot was below at)
    where
      by : IsHitOrNot c.frame slot effect was → IsStateAfter (c.frame + 1) r.state
      by (IsHit got state hit new) = subst (IsStateAfter (c.frame + 1)) (ap (λ (x : Rec). x.state) (sym new ∙ is)) (state_hit c.frame was.state state before hit)
      by (IsLeft none new) = subst (IsStateAfter (c.frame + 1)) (ap (λ (x : Rec). x.state) (sym new ∙ is)) before

  states_after : HaveStatesAfter (c.frame + 1) records → HaveStatesAfter (c.frame + 1) (records_after map records c)
  states_after have slot r below at = elim (read-set (with_new_states effect.states records) c.slot slot (Some effect.me)) [
    | inl here ↦
        let found = live_record records c.slot has.live in
        let one : effect.me ≡ r = same_Some effect.me r (sym here.2 ∙ at) in
        let state : r.state ≡ state_after_move c.frame found.r.state = ap (λ (x : Rec). x.state) (sym one) ∙ mover_state map records c valid has found.r found.at in
        subst (IsStateAfter (c.frame + 1)) (sym state) (state_moved (c.frame + 1) c.frame found.r.state (have c.slot found.r has.slot found.at))
    | inr kept ↦
        let before = was_at effect.states records slot r (sym kept ∙ at) in
        let own : before.was.id ≡ slot = (valid.each slot before.was before.at).own_id in
        other_after slot before.was r below before.at (ap (λ (k : ℕ). with_new_state effect.states k before.was) (sym own) ∙ before.is)
        (have slot before.was below before.at)
  ]

-- ---- the moves of a frame

states_after_all : (map : MapView) (frame : ℕ) (records : List (Option Rec)) (commands : List Command) → IsMap map → IsValidWorld map records → All (HasLivePlayer records) commands
    → All (IsOfFrame frame) commands → HaveStatesAfter (frame + 1) records → HaveStatesAfter (frame + 1) (after_all map records commands)
states_after_all map frame records [] is_map valid live of have = have
states_after_all map frame records (c ∷ commands) is_map valid live of have =
    let has = All-head (HasLivePlayer records) c commands live in
    let more = moved-more map records records [] c is_map has (moved-none map records valid) in
    let number : c.frame ≡ frame = All-head (IsOfFrame frame) c commands of in
    let after : HaveStatesAfter (frame + 1) (records_after map records c) =
    subst (λ (n : ℕ). HaveStatesAfter (n + 1) (records_after map records c)) number
    (states_after map records c valid has (subst (λ (n : ℕ). HaveStatesAfter (n + 1) records) (sym number) have)) in
    states_after_all map frame (records_after map records c) commands is_map more.valid
    (All-weaker (HasLivePlayer records) (HasLivePlayer (records_after map records c)) (λ d there. still-live map records (records_after map records c) (c ∷ []) d more there) commands
    (All-tail (HasLivePlayer records) c commands live))
    (All-tail (IsOfFrame frame) c commands of) after

-- ---- the begin and the end of a frame

states_begun : (map : MapView) (frame : ℕ) (state : State) (arrivals : List Arrival) → IsMap map → IsServerState map state → HaveStatesAfter frame state.records
    → HaveStatesAfter frame (received_in map frame state arrivals).state.records
states_begun map frame state arrivals is_map is have slot r below at = by (record_at state.records slot) refl
  where
    by : (o : Option Rec) → record_at state.records slot ≡ o → IsStateAfter frame r.state
    by None none = subst (IsStateAfter frame) (sym (frames_begin.joined map frame state arrivals is_map is slot r none at)) (zero_state frame)
    by (Some old) there = subst (IsStateAfter frame) (sym (frames_begin.kept map frame state arrivals is_map is slot old r below there at)) (have slot old below there)

states_finished : (map : MapView) (frames : ℕ) (state : State) → IsServerState map state → HaveStatesAfter frames state.records → HaveStatesAfter frames (finished state).records
states_finished map frames state is have slot r below at =
    by (is_leaver (client_at state.clients slot)) (sym (leavers_out state (client_count state.clients is.clients.slots) is.places slot).1 ∙ at)
  where
    by : (leaves : Bool) → (if leaves then None else record_at state.records slot) ≡ Some r → IsStateAfter frames r.state
    by true h = absurd (none-some r h)
    by false h = have slot r below h

-- ---- frames

-- after the moves of a frame
states_shown : (map : MapView) (frame : ℕ) (state : State) (arrivals : List Arrival) (journal : List Entry) → IsMap map → IsServerState map state → HaveStatesAfter frame state.records
    → HaveStatesAfter (frame + 1) (moved_by map (received_in map frame state arrivals) journal).records
states_shown map frame state arrivals journal is_map is have =
    let r = received_in map frame state arrivals in
    let pass = received_is map frame state arrivals is_map is in
    let commands = commands_of (history_of r.lists.moves journal) in
    let live = history_has (HasLivePlayer r.state.records) r.lists.moves journal pass.live in
    let of = history_has (IsOfFrame frame) r.lists.moves journal (moves_are_of_frame map frame (state_after_tick map frame state) arrivals) in
    let begun = states_begun map frame state arrivals is_map is have in
    subst (HaveStatesAfter (frame + 1)) (sym (after_all-are map r.state.records commands is_map pass.state.fits.valid live))
    (states_after_all map frame r.state.records commands is_map pass.state.fits.valid live of (λ slot x below at. later_state frame x.state (begun slot x below at)))

-- after any frames
states_between : (map : MapView) (frame : ℕ) (state : State) (frames : List (List Arrival)) (journals : List (List Entry)) → IsMap map → IsServerState map state → HaveStatesAfter frame state.records
    → HaveStatesAfter (frame + length frames) (state_played map frame state frames journals).records
states_between map frame state [] journals is_map is have =
    let there : frame ≡ frame + 0 = omega arith in
    subst (λ (n : ℕ). HaveStatesAfter n state.records) there have
states_between map frame state (arrivals ∷ frames) journals is_map is have =
    let r = received_in map frame state arrivals in
    let pass = received_is map frame state arrivals is_map is in
    let after = state_after map r (first_of journals) in
    let there : frame + 1 + length frames ≡ frame + length (arrivals ∷ frames) = omega arith in
    subst (λ (n : ℕ). HaveStatesAfter n (state_played map (frame + 1) after frames (rest_of journals)).records) there
    (states_between map (frame + 1) after frames (rest_of journals) is_map (state_after_is map r (first_of journals) is_map pass)
    (states_finished map (frame + 1) (moved_by map r (first_of journals)) (moved_by_is map r (first_of journals) is_map pass)
    (states_shown map frame state arrivals (first_of journals) is_map is have)))

-- at first no player is there
opening_states : (map : MapView) → IsMap map → HaveStatesAfter 0 (opening map).records
opening_states map is_map slot r below at =
    absurd (differ (sym (ap is_some (opening_nobody map slot)) ∙ (opening_is map is_map).fits.live.same slot below ∙ ap is_some at))
  where
    differ : false ≡ true → ⊥
    differ h = cc

pub states_played : (map : MapView) (frames : List (List Arrival)) (journals : List (List Entry)) → IsMap map → HaveStatesAfter (length frames) (state_played map 0 (opening map) frames journals).records
states_played map frames journals is_map =
    let there : 0 + length frames ≡ length frames = omega arith in
    subst (λ (n : ℕ). HaveStatesAfter n (state_played map 0 (opening map) frames journals).records) there
    (states_between map 0 (opening map) frames journals is_map (opening_is map is_map) (opening_states map is_map))

pub nobody_down_for_long : NobodyIsDownForLong
nobody_down_for_long = record {
  between = states_played;
  shown = λ map frames journals arrivals journal is_map.
      states_shown map (length frames) (state_played map 0 (opening map) frames journals) arrivals journal is_map
      (played_is map 0 (opening map) frames journals is_map (opening_is map is_map)) (states_played map frames journals is_map);
  most = most_state;
  up = up_again;
}
