-- What a command does to the states of players: that of the one that it hits, and the mover's own.
use Rattle.std.proofs.Common.{◌≡◌, ◌≢◌, ℕ, zero, suc, ◌-◌, ◌<◌, ◌≤◌, nat_le, Bool, true, false, cond, ◌&&◌, List, [], ◌∷◌, ◌++◌, Option, Some, None, is_some, IsSome, inl, inr, refl, sym, ap, ◌∙◌, subst, arith, get_or-set_other}
use Rattle.std.specs.Prelude.{All, Contains}
use Rattle.std.specs.Option.{option_map}
use Rattle.std.proofs.lemmas.Bool.{cases_eq, cases_lt}
use Rattle.std.proofs.lemmas.Bool.Decides.{nat_tests}
use Rattle.std.proofs.lemmas.List.Elements.{All-append, All-cons, All-contains, All-map, All-nil, All-weaker}
use Rattle.std.proofs.lemmas.Option.{same_Some}
use Rattle.entity_recs.specs.declared.effect.Effect.{Effect}
use Rattle.entity_recs.specs.declared.effect.NewState.{NewState}
use Rattle.entity_recs.specs.declared.kind.Kind.{Kind}
use Rattle.entity_recs.specs.declared.rec.Rec.{Rec}
use Rattle.entity_recs.specs.Records.{with_state}
use Rattle.entity_recs.specs.Commands.{Command}
use Rattle.entity_recs.specs.Worlds.{others_of, record_or_nobody}
use Rattle.entity_recs.specs.Histories.{Action, with_new_state}
use Rattle.entity_recs.proofs.Ids.{thing_id}
use Rattle.arena_map.specs.Maps.{MapView}
use Rattle.arena_map.specs.Validity.{IsPlayerState, IsPlayerStateOn, IsStateOn, IsValidWorld}
use Rattle.arena_outcomes.specs.Outcomes.{shot_outcome, outcome_on}
use Rattle.arena_outcomes.proofs.Lawful.Moves.{keep_who_moves}
use Rattle.arena_outcomes.proofs.OnMaps.{decide, down_lie, down_rise, follow_moves}
use Rattle.world_tree.specs.Live.{record_at}
use Rattle.plain_server.specs.RecordsById.{world_of}
use Rattle.plain_server.specs.Moving.{HasLivePlayer, effect_among, with_new_states, records_after}
use Rattle.plain_server.specs.Hits.{state_after_move}
use Rattle.plain_server.proofs.Hits.{IsHitState}
use Rattle.plain_server.proofs.NewStates.{record_at-restated, still_at, Lacks, new_state-lacks, new_state-last}
use Rattle.plain_server.proofs.Takes.{IsTakenIn, HitsNobody, HitsOne, IsDone, ids_of, done, lacks_what_lacks}
use Rattle.plain_server.proofs.Players.{slot_is_player}

-- what an effect does to the player of a slot that isn't the mover's: it hits it, or leaves it as it is
pub data IsHitOrNot (frame slot : ℕ) (e : Effect) (r : Rec) : Type 0 where
  IsHit : Contains e.reply.got slot → (state : ℕ) → IsHitState frame r.state state → with_new_state e.states slot r ≡ with_state r state → IsHitOrNot frame slot e r
  IsLeft : All (λ (id : ℕ). id ≢ slot) e.reply.got → with_new_state e.states slot r ≡ r → IsHitOrNot frame slot e r

-- ---- the mover

-- who stands, or is down still, keeps its state, and who rises has none
stays_below : (frame state : ℕ) → state < 100 → state_after_move frame state ≡ state
stays_below frame state few = ap (λ (t : Bool). cond t 0 state) (test frame state few)
  where
    test : (f s : ℕ) → s < 100 → (nat_le 100 s && nat_le (s - 100) f) ≡ false
    test f s h = grind (arith, nat_tests)

stays_down : (frame state : ℕ) → frame < state - 100 → state_after_move frame state ≡ state
stays_down frame state before = ap (λ (t : Bool). cond t 0 state) (test frame state before)
  where
    test : (f s : ℕ) → f < s - 100 → (nat_le 100 s && nat_le (s - 100) f) ≡ false
    test f s h = grind (arith, nat_tests)

rises : (frame state : ℕ) → 100 ≤ state → state - 100 ≤ frame → state_after_move frame state ≡ 0
rises frame state many since = ap (λ (t : Bool). cond t 0 state) (test frame state many since)
  where
    test : (f s : ℕ) → 100 ≤ s → s - 100 ≤ f → (nat_le 100 s && nat_le (s - 100) f) ≡ true
    test f s h since = grind (arith, nat_tests)

-- so it is after each move on a map
own_state : (map : MapView) (me : Rec) (near : List Rec) (c : Command) → IsPlayerStateOn map me.state → (outcome_on map me near c).me.state ≡ state_after_move c.frame me.state
own_state map me near c fits = by map.shots refl
  where
    with_shots : (shot_outcome map me near c).me.state ≡ state_after_move c.frame me.state
    with_shots = elim (cases_lt me.state 100) [
      | inl few ↦ (follow_moves map me near c few).state ∙ sym (stays_below c.frame me.state few)
      | inr many ↦ elim (cases_lt c.frame (me.state - 100)) [
        | inl before ↦ (down_lie map me near c (me.state - 100) (omega (arith, many)) before).state ∙ sym (stays_down c.frame me.state before)
        | inr since ↦ (down_rise map me near c (me.state - 100) (omega (arith, many)) since).state ∙ sym (rises c.frame me.state many since)
      ]
    ]

    by : (shots : Bool) → map.shots ≡ shots → (outcome_on map me near c).me.state ≡ state_after_move c.frame me.state
    by false none =
        let zero_is : me.state ≡ 0 = subst (λ (b : Bool). IsPlayerState b me.state) none fits in
        ap (λ (act : Action). (act me near c).me.state) (decide.plain_outcome map none) ∙ (keep_who_moves map me near c).state ∙ zero_is ∙ sym (ap (state_after_move c.frame) zero_is)
    by true some = ap (λ (act : Action). (act me near c).me.state) (decide.shot_outcome map some) ∙ with_shots

-- ---- a command

module _ (map : MapView) (records : List (Option Rec)) (c : Command) (valid : IsValidWorld map records) (has : HasLivePlayer records c) where
  own : (id : ℕ) (r : Rec) → record_at records id ≡ Some r → r.id ≡ id
  own id r at = (valid.each id r at).own_id

  abbrev effect : Effect
  effect = effect_among map records c

  -- an item that is taken has the id of a thing
  taken_is_thing : (s : NewState) → IsTakenIn map records c.frame s → 64 ≤ s.id
  taken_is_thing s t =
      let here = valid.each s.id t.item t.at in
      subst (λ (k : ℕ). 64 ≤ k) here.own_id (thing_id t.item.kind t.item.id t.kind here.is_record.id)

  -- so it isn't that of a slot
  taken_lack : (slot : ℕ) (states : List NewState) → slot < 64 → All (IsTakenIn map records c.frame) states → Lacks states slot
  taken_lack slot states below all =
      All-weaker (IsTakenIn map records c.frame) (λ (s : NewState). s.id ≢ slot) (λ s t same. let from = taken_is_thing s t in omega (arith, from, same, below)) states all

  -- nor are the ids of what is taken
  ids_lack : (slot : ℕ) (states : List NewState) → Lacks states slot → All (λ (id : ℕ). id ≢ slot) (ids_of states)
  ids_lack slot states lacks = All-map (λ (id : ℕ). id ≢ slot) (λ (s : NewState). s.id) states lacks

  -- another player is hit, or left as it is
  pub hit_or_not : (slot : ℕ) (r : Rec) → slot < 64 → record_at records slot ≡ Some r → IsHitOrNot c.frame slot effect r
  hit_or_not slot r below at = by effect (done map records c own)
    where
      by : (e : Effect) → IsDone map records c.frame c.slot e → IsHitOrNot c.frame slot e r
      by e (HitsNobody all got) =
          let lacks = taken_lack slot e.states below all in
          IsLeft (subst (All (λ (id : ℕ). id ≢ slot)) (sym got) (ids_lack slot e.states lacks)) (new_state-lacks e.states slot r lacks)
      by e (HitsOne taken hurt all h apart states got) =
          let lacks = taken_lack slot taken below all in
          elim (cases_eq hurt.id slot) [
            | inl same ↦
                let one : h.player ≡ r = same_Some h.player r (sym h.at ∙ ap (record_at records) same ∙ at) in
                IsHit (subst (λ (ids : List ℕ). Contains ids slot) (sym got) (0, omega arith, same)) hurt.state
                (subst (λ (p : Rec). IsHitState c.frame p.state hurt.state) one h.hit)
                (ap (λ (s : List NewState). with_new_state s slot r) states ∙ new_state-last taken hurt slot r lacks same)
            | inr other ↦
                let none = All-append (λ (s : NewState). s.id ≢ slot) taken (hurt ∷ []) lacks (All-cons (λ (s : NewState). s.id ≢ slot) hurt [] other (All-nil (λ (s : NewState). s.id ≢ slot))) in
                IsLeft
                (subst (All (λ (id : ℕ). id ≢ slot)) (sym got) (All-cons (λ (id : ℕ). id ≢ slot) hurt.id (ids_of taken) other (ids_lack slot taken lacks)))
                (ap (λ (s : List NewState). with_new_state s slot r) states ∙ new_state-lacks (taken ++ hurt ∷ []) slot r none)
          ]

  -- the record of another slot after the command
  pub other_then : (slot : ℕ) (r : Rec) → slot ≢ c.slot → record_at records slot ≡ Some r → record_at (records_after map records c) slot ≡ Some (with_new_state effect.states slot r)
  other_then slot r apart at =
      get_or-set_other (with_new_states effect.states records) c.slot slot (Some effect.me) None apart
      ∙ still_at effect.states records slot r at
      ∙ ap (λ (k : ℕ). Some (with_new_state effect.states k r)) (own slot r at)

  -- one that isn't hit, and isn't the mover, is as it was
  pub unhit_stays : (slot : ℕ) → slot ≢ c.slot → All (λ (id : ℕ). id ≢ slot) effect.reply.got → record_at (records_after map records c) slot ≡ record_at records slot
  unhit_stays slot apart none = get_or-set_other (with_new_states effect.states records) c.slot slot (Some effect.me) None apart ∙ by (record_at records slot) refl
    where
      lacks : Lacks effect.states slot
      lacks = lacks_what_lacks map records c own slot none

      by : (o : Option Rec) → record_at records slot ≡ o → record_at (with_new_states effect.states records) slot ≡ record_at records slot
      by None at = record_at-restated effect.states records slot ∙ ap (option_map (λ (x : Rec). with_new_state effect.states x.id x)) at ∙ sym at
      by (Some r) at =
          still_at effect.states records slot r at
          ∙ ap (λ (k : ℕ). Some (with_new_state effect.states k r)) (own slot r at)
          ∙ ap Some (new_state-lacks effect.states slot r lacks)
          ∙ sym at

  -- of the ids of what is taken and of who is hit, one that is a slot is that of who is hit
  is_hurt : (slot : ℕ) (hurt : NewState) (taken : List NewState) → slot < 64 → All (IsTakenIn map records c.frame) taken → Contains (hurt.id ∷ ids_of taken) slot → slot ≡ hurt.id
  is_hurt slot hurt taken below all (zero, within, is) = sym is
  is_hurt slot hurt taken below all (suc n, within, is) =
      absurd (All-contains (λ (id : ℕ). id ≢ slot) (ids_of taken) slot (ids_lack slot taken (taken_lack slot taken below all)) (n, omega (arith, within), is) refl)

  -- who is hit is there
  pub hit_is_there : (slot : ℕ) → slot < 64 → Contains effect.reply.got slot → IsSome (record_at records slot)
  hit_is_there slot below = by effect (done map records c own)
    where
      by : (e : Effect) → IsDone map records c.frame c.slot e → Contains e.reply.got slot → IsSome (record_at records slot)
      by e (HitsNobody all got) among =
          absurd (All-contains (λ (id : ℕ). id ≢ slot) e.reply.got slot (subst (All (λ (id : ℕ). id ≢ slot)) (sym got) (ids_lack slot e.states (taken_lack slot e.states below all))) among refl)
      by e (HitsOne taken hurt all h apart states got) among =
          let same = is_hurt slot hurt taken below all (subst (λ (ids : List ℕ). Contains ids slot) got among) in
          ap is_some (ap (record_at records) same ∙ h.at)

  -- of the ids that the mover got at most one is a slot
  pub one_slot : (id other : ℕ) → id < 64 → other < 64 → Contains effect.reply.got id → Contains effect.reply.got other → other ≡ id
  one_slot id other below also = by effect (done map records c own)
    where
      by : (e : Effect) → IsDone map records c.frame c.slot e → Contains e.reply.got id → Contains e.reply.got other → other ≡ id
      by e (HitsNobody all got) has_one has_other =
          absurd (All-contains (λ (k : ℕ). k ≢ id) e.reply.got id (subst (All (λ (k : ℕ). k ≢ id)) (sym got) (ids_lack id e.states (taken_lack id e.states below all))) has_one refl)
      by e (HitsOne taken hurt all h apart states got) has_one has_other =
          let first = is_hurt id hurt taken below all (subst (λ (ids : List ℕ). Contains ids id) got has_one) in
          let second = is_hurt other hurt taken also all (subst (λ (ids : List ℕ). Contains ids other) got has_other) in
          second ∙ sym first

  -- and it isn't its own
  pub not_own : All (λ (id : ℕ). id ≢ c.slot) effect.reply.got
  not_own = by effect (done map records c own)
    where
      by : (e : Effect) → IsDone map records c.frame c.slot e → All (λ (id : ℕ). id ≢ c.slot) e.reply.got
      by e (HitsNobody all got) = subst (All (λ (id : ℕ). id ≢ c.slot)) (sym got) (ids_lack c.slot e.states (taken_lack c.slot e.states has.slot all))
      by e (HitsOne taken hurt all h apart states got) =
          subst (All (λ (id : ℕ). id ≢ c.slot)) (sym got)
          (All-cons (λ (id : ℕ). id ≢ c.slot) hurt.id (ids_of taken) apart (ids_lack c.slot taken (taken_lack c.slot taken has.slot all)))

  -- the mover's state
  pub mover_state : (me : Rec) → record_at records c.slot ≡ Some me → effect.me.state ≡ state_after_move c.frame me.state
  mover_state me at =
      let here = valid.each c.slot me at in
      let fits : IsPlayerStateOn map me.state = subst (λ (k : Kind). IsStateOn map k me.state) (slot_is_player map c.slot me here has.slot) here.state in
      ap (λ (r : Rec). (outcome_on map r (others_of (world_of records) c.slot) c).me.state) (ap record_or_nobody at) ∙ own_state map me (others_of (world_of records) c.slot) c fits
