-- What a live player's command changes of others: it takes items that are there, and hits a player.
use Rattle.std.proofs.Common.{◌≡◌, ◌≢◌, ℕ, suc, zero, ◌+◌, Bool, true, false, List, [], ◌∷◌, ◌++◌, Option, Some, refl, sym, ap, ◌∙◌, subst, arith}
use Rattle.std.specs.Prelude.{All, Contains}
use Rattle.std.specs.Prelude.{map as map_list}
use Rattle.std.proofs.lemmas.Bool.{eq-eqb}
use Rattle.std.proofs.lemmas.List.{map-append}
use Rattle.std.proofs.lemmas.List.Elements.{All-append, All-cons, All-head, All-nil, All-tail, All-contains, All-from_recursion, All-weaker, Contains-append_left, Contains-append_right}
use Rattle.entity_recs.specs.declared.effect.Effect.{Effect}
use Rattle.entity_recs.specs.declared.effect.NewState.{NewState}
use Rattle.entity_recs.specs.declared.kind.Kind.{Kind}
use Rattle.entity_recs.specs.declared.kind.Kind.TheVariants.{Player}
use Rattle.entity_recs.specs.declared.rec.Rec.{Rec}
use Rattle.entity_recs.specs.Commands.{Command}
use Rattle.entity_recs.specs.Worlds.{others_of, record_or_nobody}
use Rattle.entity_recs.specs.Kinds.{is_item}
use Rattle.arena_map.specs.Maps.{MapView, solids_of, delay_of}
use Rattle.arena_map.specs.Validity.{IsPlayerState, IsStateOn}
use Rattle.trigger_rules.specs.Touching.{Walk, touched, new_state}
use Rattle.trigger_rules.specs.Laws.{IsTaken, AreTaken}
use Rattle.shot_rules.specs.Shots.{is_fired, after_shot, state_after_hit}
use Rattle.shot_rules.specs.Laws.{IsShot, Misses, Hits}
use Rattle.shot_rules.proofs.Hits.{are_in_the_way, unfired_is}
use Rattle.arena_outcomes.specs.Outcomes.{moved_among, effect_of, outcome_in, player_after_rising, shooting_in}
use Rattle.arena_outcomes.proofs.Lawful.Moves.{take_what_is_there}
use Rattle.arena_outcomes.proofs.OnMaps.{IsMove, IsPlain, Lies, Shoots, is_move}
use Rattle.world_tree.specs.Live.{record_at}
use Rattle.world_physics.proofs.Valid.{item_state}
use Rattle.plain_server.specs.RecordsById.{world_of}
use Rattle.plain_server.specs.Moving.{effect_among}
use Rattle.plain_server.proofs.Hits.{IsHitState, hit_state}
use Rattle.plain_server.proofs.NewStates.{IsOfLive, Lacks}
use Rattle.plain_server.proofs.Others.{IsOther, others_at}

-- the new state is that of an item among the records: the item was there, and returns after its delay
pub record IsTakenIn (map : MapView) (records : List (Option Rec)) (frame : ℕ) (s : NewState) : Type 0 where
  pub item : Rec
  pub at : record_at records s.id ≡ Some item
  pub kind : is_item item.kind ≡ true
  pub there : item.state ≡ 0
  pub delay : ℕ
  pub delay_is : delay_of map s.id ≡ Some delay
  pub state : s.state ≡ frame + delay

-- the new state is that of a player among the records that is hit, where players shoot
pub record IsHurtIn (map : MapView) (records : List (Option Rec)) (frame : ℕ) (s : NewState) : Type 0 where
  pub player : Rec
  pub at : record_at records s.id ≡ Some player
  pub kind : player.kind ≡ Player
  pub shots : map.shots ≡ true
  pub hit : IsHitState frame player.state s.state

-- a new state is one of these
pub data IsChange (map : MapView) (records : List (Option Rec)) (frame : ℕ) (s : NewState) : Type 0 where
  Takes : IsTakenIn map records frame s → IsChange map records frame s
  Hurts : IsHurtIn map records frame s → IsChange map records frame s

-- the ids of new states
abbrev pub ids_of : List NewState → List ℕ
ids_of states = map_list (λ (s : NewState). s.id) states

-- what a command does: it takes items, and hits nobody, or, last, one player that isn't the mover
pub data IsDone (map : MapView) (records : List (Option Rec)) (frame slot : ℕ) (e : Effect) : Type 0 where
  HitsNobody : All (IsTakenIn map records frame) e.states → e.reply.got ≡ ids_of e.states → IsDone map records frame slot e
  HitsOne : (taken : List NewState) (hurt : NewState) → All (IsTakenIn map records frame) taken → IsHurtIn map records frame hurt → hurt.id ≢ slot
      → e.states ≡ taken ++ hurt ∷ [] → e.reply.got ≡ hurt.id ∷ ids_of taken → IsDone map records frame slot e

-- an id that is first instead of last is among them
last_of_first : (x id : ℕ) (xs : List ℕ) → Contains (x ∷ xs) id → Contains (xs ++ x ∷ []) id
last_of_first x id xs (zero, within, is) = Contains-append_right xs (x ∷ []) id (0, omega arith, is)
last_of_first x id xs (suc k, within, is) = Contains-append_left xs (x ∷ []) id (k, omega (arith, within), is)

-- new states lack an id that their ids lack
lacks_ids : (states : List NewState) (id : ℕ) → All (λ (k : ℕ). k ≢ id) (ids_of states) → Lacks states id
lacks_ids [] id none = All-nil (λ (s : NewState). s.id ≢ id)
lacks_ids (s ∷ states) id none =
    All-cons (λ (t : NewState). t.id ≢ id) s states (All-head (λ (k : ℕ). k ≢ id) s.id (ids_of states) none) (lacks_ids states id (All-tail (λ (k : ℕ). k ≢ id) s.id (ids_of states) none))

module _ (map : MapView) (records : List (Option Rec)) (c : Command) (own : (id : ℕ) (r : Rec) → record_at records id ≡ Some r → r.id ≡ id) where
  abbrev others : List Rec
  others = others_of (world_of records) c.slot

  abbrev me : Rec
  me = record_or_nobody (record_at records c.slot)

  -- another record is at the place of its id
  other_at : (r : Rec) → Contains others r → IsOther records c.slot r
  other_at r listed = All-contains (IsOther records c.slot) others r (All-from_recursion (IsOther records c.slot) others (others_at records c.slot own)) listed

  -- what the command does
  abbrev IsSo : Effect → Type 0
  IsSo e = IsDone map records c.frame c.slot e

  one : (moved : Rec) (s : NewState) → IsTaken map c.frame moved others s → IsTakenIn map records c.frame s
  one moved s t =
      let here = other_at t.item t.listed in
      record {
        item = t.item;
        at = ap (record_at records) (sym t.own) ∙ here.at;
        kind = t.kind;
        there = t.there;
        delay = t.delay;
        delay_is = ap (delay_of map) (sym t.own) ∙ t.delay_is;
        state = t.state;
      }

  all_taken : (moved : Rec) (w : Walk) → AreTaken map c.frame moved others w.states w.got → All (IsTakenIn map records c.frame) w.states
  all_taken moved w are = All-weaker (IsTaken map c.frame moved others) (IsTakenIn map records c.frame) (one moved) w.states are.each

  -- one that moves and touches takes items
  walk_is : (moved : Rec) (w : Walk) → AreTaken map c.frame moved others w.states w.got → IsSo (effect_of w)
  walk_is moved w are = HitsNobody (all_taken moved w are) are.got_are

  -- who is hit is another one
  not_mover : (r : Rec) → Contains others r → r.id ≢ c.slot
  not_mover r listed same = differ (sym (eq-eqb r.id c.slot same) ∙ (other_at r listed).apart)
    where
      differ : true ≡ false → ⊥
      differ h = cc

  -- and the shot after it may hit one player
  shot_is : (moved : Rec) (w after : Walk) → map.shots ≡ true → AreTaken map c.frame moved others w.states w.got → IsShot (solids_of map) others c w after → IsSo (effect_of after)
  shot_is moved w after some are (Misses is) =
      let states : after.states ≡ w.states = ap (λ (v : Walk). v.states) is in
      HitsNobody (subst (All (IsTakenIn map records c.frame)) (sym states) (all_taken moved w are))
      (ap (λ (v : Walk). v.got) is ∙ are.got_are ∙ ap ids_of (sym states))
  shot_is moved w after some are (Hits r hit is) =
      let new = new_state r.id (state_after_hit r.state c.frame) in
      let hurt : IsHurtIn map records c.frame new =
      record { player = r; at = (other_at r hit.listed).at; kind = hit.player; shots = some; hit = hit_state r.state c.frame hit.standing } in
      HitsOne w.states new (all_taken moved w are) hurt (not_mover r hit.listed) (ap (λ (v : Walk). v.states) is)
      (ap (λ (v : Walk). v.got) is ∙ ap (λ (ids : List ℕ). r.id ∷ ids) are.got_are)

  shooting_is : (mover : Rec) → map.shots ≡ true → IsSo (shooting_in map mover others c)
  unfolding outcome_in
  shooting_is mover some = by (is_fired c walk) refl
    where
      moved : Rec
      moved = moved_among map mover others c

      walk : Walk
      walk = touched map c.frame moved others

      are : AreTaken map c.frame moved others walk.states walk.got
      are = take_what_is_there map mover others c

      by : (t : Bool) → is_fired c walk ≡ t → IsSo (effect_of (after_shot (solids_of map) others c walk))
      by true fired = shot_is moved walk (after_shot (solids_of map) others c walk) some are (are_in_the_way (solids_of map) others c walk fired)
      by false none = subst (λ (v : Walk). IsSo (effect_of v)) (sym (unfired_is (solids_of map) others c walk none)) (walk_is moved walk are)

  plain_is : IsSo (outcome_in map me others c)
  unfolding outcome_in
  plain_is = walk_is (moved_among map me others c) (touched map c.frame (moved_among map me others c) others) (take_what_is_there map me others c)

  -- each command does so
  pub done : IsSo (effect_among map records c)
  done = by (effect_among map records c) (is_move map me others c)
    where
      by : (e : Effect) → IsMove map me others c e → IsSo e
      by e (IsPlain none is) = subst IsSo (sym is) plain_is
      by e (Lies some is) = subst IsSo (sym is) (HitsNobody (All-nil (IsTakenIn map records c.frame)) refl)
      by e (Shoots some is) = subst IsSo (sym is) (shooting_is (player_after_rising me) some)

  takes : (states : List NewState) → All (IsTakenIn map records c.frame) states → All (IsChange map records c.frame) states
  takes states all = All-weaker (IsTakenIn map records c.frame) (IsChange map records c.frame) (λ s t. Takes t) states all

  -- each new state of a command is such a change
  pub changed_in : All (IsChange map records c.frame) (effect_among map records c).states
  changed_in = by (effect_among map records c) done
    where
      by : (e : Effect) → IsSo e → All (IsChange map records c.frame) e.states
      by e (HitsNobody all got) = takes e.states all
      by e (HitsOne taken hurt all h apart states got) =
          subst (All (IsChange map records c.frame)) (sym states)
          (All-append (IsChange map records c.frame) taken (hurt ∷ []) (takes taken all)
          (All-cons (IsChange map records c.frame) hurt [] (Hurts h) (All-nil (IsChange map records c.frame))))

  -- and fits its record
  pub of_live : All (IsOfLive map records) (effect_among map records c).states
  of_live = All-weaker (IsChange map records c.frame) (IsOfLive map records) fitting (effect_among map records c).states changed_in
    where
      fitting : (s : NewState) → IsChange map records c.frame s → IsOfLive map records s
      fitting s (Takes t) = record { owner = t.item; at = t.at; fits = item_state map t.item.kind s.state t.kind }
      fitting s (Hurts h) =
          let any : IsPlayerState map.shots s.state = subst (λ (b : Bool). IsPlayerState b s.state) (sym h.shots) tt in
          record { owner = h.player; at = h.at; fits = subst (λ (k : Kind). IsStateOn map k s.state) (sym h.kind) any }

  -- the ids in its reply are those of new states
  pub got_among : (id : ℕ) → Contains (effect_among map records c).reply.got id → Contains (ids_of (effect_among map records c).states) id
  got_among = by (effect_among map records c) done
    where
      by : (e : Effect) → IsSo e → (id : ℕ) → Contains e.reply.got id → Contains (ids_of e.states) id
      by e (HitsNobody all got) id has = subst (λ (ids : List ℕ). Contains ids id) got has
      by e (HitsOne taken hurt all h apart states got) id has =
          subst (λ (s : List NewState). Contains (ids_of s) id) (sym states)
          (subst (λ (ids : List ℕ). Contains ids id) (sym (map-append (λ (s : NewState). s.id) taken (hurt ∷ [])))
          (last_of_first hurt.id id (ids_of taken) (subst (λ (ids : List ℕ). Contains ids id) got has)))

  -- and each new state is that of one of them
  pub lacks_what_lacks : (id : ℕ) → All (λ (k : ℕ). k ≢ id) (effect_among map records c).reply.got → Lacks (effect_among map records c).states id
  lacks_what_lacks id = by (effect_among map records c) done
    where
      by : (e : Effect) → IsSo e → All (λ (k : ℕ). k ≢ id) e.reply.got → Lacks e.states id
      by e (HitsNobody all got) none = lacks_ids e.states id (subst (All (λ (k : ℕ). k ≢ id)) got none)
      by e (HitsOne taken hurt all h apart states got) none =
          let ids = subst (All (λ (k : ℕ). k ≢ id)) got none in
          let last = All-cons (λ (s : NewState). s.id ≢ id) hurt [] (All-head (λ (k : ℕ). k ≢ id) hurt.id (ids_of taken) ids) (All-nil (λ (s : NewState). s.id ≢ id)) in
          subst (λ (s : List NewState). Lacks s id) (sym states)
          (All-append (λ (s : NewState). s.id ≢ id) taken (hurt ∷ []) (lacks_ids taken id (All-tail (λ (k : ℕ). k ≢ id) hurt.id (ids_of taken) ids)) last)
