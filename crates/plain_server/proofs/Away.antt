-- An item that is taken is away until its frame: commands leave it as it is, and take it no second time.
use Rattle.std.proofs.Common.{◌≡◌, ◌≢◌, ℕ, zero, suc, ◌+◌, ◌<◌, ◌≤◌, ◌-◌, ◌==◌, Bool, true, false, cond, nat_le, option_and_then, List, [], ◌∷◌, Option, Some, None, is_some, slice_get, inl, inr, refl, sym, ap, ◌∙◌, subst, arith, get_or-set_other}
use Rattle.std.specs.Prelude.{All, Contains}
use Rattle.std.specs.Prelude.{map as map_list}
use Rattle.std.proofs.lemmas.Bool.Decides.{nat_tests}
use Rattle.std.proofs.lemmas.Bool.{cases_Bool, eq-eqb, eqb-true, cond-true, cond-false}
use Rattle.std.proofs.lemmas.List.Elements.{All-head, All-tail, All-weaker, All-map, All-contains}
use Rattle.std.proofs.lemmas.Option.{none-some, same_Some}
use Rattle.entity_recs.specs.declared.effect.Effect.{Effect}
use Rattle.entity_recs.specs.declared.effect.Entry.{Entry}
use Rattle.entity_recs.specs.declared.effect.NewState.{NewState}
use Rattle.entity_recs.specs.declared.kind.Kind.{Kind}
use Rattle.entity_recs.specs.declared.rec.Rec.{Rec}
use Rattle.entity_recs.specs.Commands.{Command}
use Rattle.entity_recs.specs.Records.{IsIdOf, with_state}
use Rattle.entity_recs.specs.Histories.{Item, with_new_state, commands_of}
use Rattle.entity_recs.specs.Kinds.{is_item}
use Rattle.entity_recs.proofs.Ids.{thing_id}
use Rattle.arena_map.specs.declared.map_line.MapLine.{MapLine}
use Rattle.arena_map.specs.declared.map_line.MapLine.TheVariants as lines
use Rattle.arena_map.specs.Things.{delay_in}
use Rattle.arena_map.specs.Maps.{MapView, IsMap, IsThingInside, thing_of, delay_of}
use Rattle.arena_map.specs.Validity.{IsValidWorld}
use Rattle.world_tree.specs.Live.{record_at}
use Rattle.plain_server.specs.Moving.{HasLivePlayer, effect_among, with_new_states, records_after}
use Rattle.plain_server.specs.Takers.{IsItemOf}
use Rattle.plain_server.proofs.NewStates.{still_at, Lacks, new_state-lacks}
use Rattle.plain_server.specs.Laws.{IsGot, IsItem, IsHit}
use Rattle.plain_server.proofs.Takes.{IsTakenIn, IsHurtIn, IsChange, Takes, Hurts, changed_in, got_among}
use Rattle.plain_server.proofs.Moves.{after_all}
use Rattle.plain_server.proofs.Runs.{entries_of, IsRun, first_live, entry_is, run_rest}
use Rattle.plain_server.proofs.OfFrame.{IsOfFrame}

-- ---- delays

at_place : (P : MapLine → Type 0) (xs : List MapLine) (k : ℕ) (x : MapLine) → All P xs → slice_get xs k ≡ Some x → P x
at_place P [] k x all e = absurd (none-some x e)
at_place P (y ∷ xs) zero x all e = subst P (same_Some y x e) (All-head P y xs all)
at_place P (y ∷ xs) (suc k) x all e = at_place P xs k x (All-tail P y xs all) e

-- an item is away for at least a frame
pub least_delay : (map : MapView) (id delay : ℕ) → IsMap map → delay_of map id ≡ Some delay → 1 ≤ delay
least_delay map id delay is_map is = by (thing_of map id) refl is
  where
    inside : (o : Option MapLine) (line : MapLine) → thing_of map id ≡ o → o ≡ Some line → IsThingInside map.bounds line
    inside o line e found = elim (cases_Bool (nat_le 64 id)) [
      | inl b ↦ at_place (IsThingInside map.bounds) map.things (id - 64) line is_map.things (cond-above b ∙ e ∙ found)
      | inr b ↦ absurd (none-some line (cond-below b ∙ e ∙ found))
    ]
      where
        cond-above : nat_le 64 id ≡ true → slice_get map.things (id - 64) ≡ thing_of map id
        cond-above b = sym (cond-true (nat_le 64 id) (slice_get map.things (id - 64)) None b)

        cond-below : nat_le 64 id ≡ false → None ≡ thing_of map id
        cond-below b = sym (cond-false (nat_le 64 id) (slice_get map.things (id - 64)) None b)

    of_line : (line : MapLine) → IsThingInside map.bounds line → delay_in line ≡ Some delay → 1 ≤ delay
    of_line (lines.Item at kind frames) here e = let same = same_Some frames delay e in let least = here.limits.2 in omega (arith, same, least)
    of_line (lines.Arena lo hi) here e = absurd (none-some delay e)
    of_line (lines.Block lo hi) here e = absurd (none-some delay e)
    of_line (lines.Spawn at) here e = absurd (none-some delay e)
    of_line (lines.Depth depth) here e = absurd (none-some delay e)
    of_line lines.Shots here e = absurd (none-some delay e)
    of_line (lines.Blocks most) here e = absurd (none-some delay e)
    of_line (lines.Teleport lo hi dest) here e = absurd (none-some delay e)
    of_line (lines.Goal lo hi) here e = absurd (none-some delay e)
    of_line (lines.Lift lo hi rise speed) here e = absurd (none-some delay e)

    by : (o : Option MapLine) → thing_of map id ≡ o → option_and_then delay_in o ≡ Some delay → 1 ≤ delay
    by None e h = absurd (none-some delay h)
    by (Some line) e h = of_line line (inside (Some line) line e refl) h

-- ---- what is away

-- the record with this id is that of an item that is away until this frame
pub record IsAway (records : List (Option Rec)) (id until : ℕ) : Type 0 where
  pub item : Rec
  pub at : record_at records id ≡ Some item
  pub kind : is_item item.kind ≡ true
  pub state : item.state ≡ until

-- its id is no slot
pub away_is_thing : (map : MapView) (records : List (Option Rec)) (id until : ℕ) → IsValidWorld map records → IsAway records id until → 64 ≤ id
away_is_thing map records id until valid away =
    let here = valid.each id away.item away.at in
    subst (λ (k : ℕ). 64 ≤ k) here.own_id (thing_id away.item.kind away.item.id away.kind here.is_record.id)

-- ---- one command

-- the first new state of an id that is among them
record IsFirst (map : MapView) (records : List (Option Rec)) (frame : ℕ) (states : List NewState) (id : ℕ) : Type 0 where
  first : NewState
  taken : IsTakenIn map records frame first
  same : first.id ≡ id
  new : (r : Rec) → with_new_state states id r ≡ with_state r first.state

-- an id that isn't the first one is among the others
among_rest : (x : ℕ) (xs : List ℕ) (id : ℕ) → (x == id) ≡ false → Contains (x ∷ xs) id → Contains xs id
among_rest x xs id apart (zero, within, is) = absurd (differ (sym (eq-eqb x id is) ∙ apart))
  where
    differ : true ≡ false → ⊥
    differ h = cc
among_rest x xs id apart (suc k, within, is) = (k, omega (arith, within), is)

-- the change of a thing's state is that of an item that was taken
thing_is_taken : (map : MapView) (records : List (Option Rec)) (frame : ℕ) (s : NewState) → ((h : NewState) → IsHurtIn map records frame h → h.id < 64) → 64 ≤ s.id
    → IsChange map records frame s → IsTakenIn map records frame s
thing_is_taken map records frame s low from (Takes t) = t
thing_is_taken map records frame s low from (Hurts h) = absurd (omega (arith, low s h, from))

first_of_id : (map : MapView) (records : List (Option Rec)) (frame : ℕ) (states : List NewState) (id : ℕ) → ((h : NewState) → IsHurtIn map records frame h → h.id < 64) → 64 ≤ id
    → All (IsChange map records frame) states → Contains (map_list (λ (s : NewState). s.id) states) id → IsFirst map records frame states id
first_of_id map records frame [] id low from all (k, within, is) = absurd (omega (arith, within))
first_of_id map records frame (s ∷ states) id low from all has = elim (cases_Bool (s.id == id)) [
  | inl e ↦
      let same = eqb-true s.id id e in
      let taken = thing_is_taken map records frame s low (omega (arith, from, same)) (All-head (IsChange map records frame) s states all) in
      record { first = s; taken = taken; same = same; new = λ r. rw e refl }
  | inr e ↦
      let others = map_list (λ (t : NewState). t.id) states in
      let rest = first_of_id map records frame states id low from (All-tail (IsChange map records frame) s states all) (among_rest s.id others id e has) in
      record { first = rest.first; taken = rest.taken; same = rest.same; new = λ r. rw e (rest.new r) }
]

-- an id of an item is that of a thing
item_is_thing : (map : MapView) (id : ℕ) → IsItemOf map id → 64 ≤ id
item_is_thing map id item = by (nat_le 64 id) refl item
  where
    least : nat_le 64 id ≡ true → 64 ≤ id
    least e = grind (arith, nat_tests)

    by : (b : Bool) → nat_le 64 id ≡ b → is_some (option_and_then delay_in (cond b (slice_get map.things (id - 64)) None)) ≡ true → 64 ≤ id
    by true e some = least e
    by false e some = cc

-- what is among the ids of changes is an item, or a player that was hit
got_of_change : (map : MapView) (records : List (Option Rec)) (frame : ℕ) (states : List NewState) (id : ℕ) → ((h : NewState) → IsHurtIn map records frame h → h.id < 64)
    → All (IsChange map records frame) states → Contains (map_list (λ (s : NewState). s.id) states) id → IsGot map id
got_of_change map records frame [] id low all (k, within, is) = absurd (omega (arith, within))
got_of_change map records frame (s ∷ states) id low all (zero, within, is) = of (All-head (IsChange map records frame) s states all)
  where
    of : IsChange map records frame s → IsGot map id
    of (Takes t) = IsItem (ap is_some (ap (delay_of map) (sym is) ∙ t.delay_is))
    of (Hurts h) = IsHit h.shots (omega (arith, low s h, is))
got_of_change map records frame (s ∷ states) id low all (suc k, within, is) =
    got_of_change map records frame states id low (All-tail (IsChange map records frame) s states all) (k, omega (arith, within), is)

-- an item that a command took in a frame is away for its delay
pub record IsAwayThen (map : MapView) (records : List (Option Rec)) (frame id : ℕ) : Type 0 where
  pub delay : ℕ
  pub delay_is : delay_of map id ≡ Some delay
  pub away : IsAway records id (frame + delay)

module _ (map : MapView) (records : List (Option Rec)) (c : Command) (valid : IsValidWorld map records) (has : HasLivePlayer records c) where
  own : (id : ℕ) (r : Rec) → record_at records id ≡ Some r → r.id ≡ id
  own id r at = (valid.each id r at).own_id

  abbrev e : Effect
  e = effect_among map records c

  changed : All (IsChange map records c.frame) e.states
  changed = changed_in map records c own

  -- a player that is hurt has the id of a slot
  hurt_is_low : (s : NewState) → IsHurtIn map records c.frame s → s.id < 64
  hurt_is_low s h =
      let here = valid.each s.id h.player h.at in
      let low : h.player.id < 64 = subst (λ (k : Kind). IsIdOf k h.player.id) h.kind here.is_record.id in
      omega (arith, low, here.own_id)

  -- none of the new states is that of an item that is away
  lacks : (id until : ℕ) → 0 < until → IsAway records id until → Lacks e.states id
  lacks id until later away = All-weaker (IsChange map records c.frame) (λ (s : NewState). s.id ≢ id) other e.states changed
    where
      other : (s : NewState) → IsChange map records c.frame s → s.id ≢ id
      other s (Hurts h) same = absurd (omega (arith, hurt_is_low s h, same, away_is_thing map records id until valid away))
      other s (Takes t) same =
          let one : t.item ≡ away.item = same_Some t.item away.item (sym t.at ∙ ap (record_at records) same ∙ away.at) in
          let none : until ≡ 0 = sym away.state ∙ sym (ap (λ (r : Rec). r.state) one) ∙ t.there in
          absurd (omega (arith, later, none))

  -- the record of a thing after the command
  thing_then : (id : ℕ) (item : Rec) → 64 ≤ id → record_at records id ≡ Some item → record_at (records_after map records c) id ≡ Some (with_new_state e.states id item)
  thing_then id item from at =
      let apart : id ≢ c.slot = λ same. absurd (omega (arith, from, has.slot, same)) in
      get_or-set_other (with_new_states e.states records) c.slot id (Some e.me) None apart
      ∙ still_at e.states records id item at
      ∙ ap (λ (k : ℕ). Some (with_new_state e.states k item)) (own id item at)

  -- an item that is away stays away
  pub away_after : (id until : ℕ) → 0 < until → IsAway records id until → IsAway (records_after map records c) id until
  away_after id until later away = record {
    item = away.item;
    at = thing_then id away.item (away_is_thing map records id until valid away) away.at ∙ ap Some (new_state-lacks e.states id away.item (lacks id until later away));
    kind = away.kind;
    state = away.state;
  }

  -- and isn't taken
  pub away_not_got : (id until : ℕ) → 0 < until → IsAway records id until → Contains e.reply.got id → ⊥
  away_not_got id until later away got =
      All-contains (λ (k : ℕ). k ≢ id) (map_list (λ (s : NewState). s.id) e.states) id
      (All-map (λ (k : ℕ). k ≢ id) (λ (s : NewState). s.id) e.states (lacks id until later away)) (got_among map records c own id got) refl

  -- what is got is an item, or a player that was hit
  pub got_is_one : (id : ℕ) → Contains e.reply.got id → IsGot map id
  got_is_one id got = got_of_change map records c.frame e.states id hurt_is_low changed (got_among map records c own id got)

  -- an item that is taken is away then
  pub got_away : (id : ℕ) → IsItemOf map id → Contains e.reply.got id → IsAwayThen map (records_after map records c) c.frame id
  got_away id item got =
      let f = first_of_id map records c.frame e.states id hurt_is_low (item_is_thing map id item) changed (got_among map records c own id got) in
      let t = f.taken in
      let at : record_at records id ≡ Some t.item = ap (record_at records) (sym f.same) ∙ t.at in
      let here = valid.each id t.item at in
      let from : 64 ≤ id = subst (λ (k : ℕ). 64 ≤ k) here.own_id (thing_id t.item.kind t.item.id t.kind here.is_record.id) in
      record {
        delay = t.delay;
        delay_is = ap (delay_of map) (sym f.same) ∙ t.delay_is;
        away = record {
          item = with_state t.item f.first.state;
          at = thing_then id t.item from at ∙ ap Some (f.new t.item);
          kind = t.kind;
          state = t.state;
        };
      }

-- ---- a history that runs

-- the first entry's ids are those of its command's effect
first_got : (map : MapView) (place : ℕ) (records : List (Option Rec)) (item : Item) (items : List Item) (x : Entry) (id : ℕ) → IsRun map place records (item ∷ items)
    → ◌≡◌ {A = Option Entry} (Some item.entry) (Some x) → Contains x.reply.got id → Contains (effect_among map records item.command).reply.got id
first_got map place records item items x id is at got =
    subst (λ (y : Entry). Contains y.reply.got id) (sym (same_Some item.entry x at) ∙ entry_is map place records item items is) got

-- an item that is away stays away
pub away_through : (map : MapView) (place : ℕ) (records : List (Option Rec)) (items : List Item) (id until : ℕ) → IsMap map → IsRun map place records items → 0 < until
    → IsAway records id until → IsAway (after_all map records (commands_of items)) id until
away_through map place records [] id until is_map is later away = away
away_through map place records (item ∷ items) id until is_map is later away =
    away_through map (place + 1) (records_after map records item.command) items id until is_map (run_rest map place records item items is_map is) later
    (away_after map records item.command is.valid (first_live map place records item items is) id until later away)

-- and no entry has it
pub nobody_got : (map : MapView) (place : ℕ) (records : List (Option Rec)) (items : List Item) (id until a : ℕ) (x : Entry) → IsMap map → IsRun map place records items → 0 < until
    → IsAway records id until → slice_get (entries_of items) a ≡ Some x → Contains x.reply.got id → ⊥
nobody_got map place records [] id until a x is_map is later away at got = absurd (none-some x at)
nobody_got map place records (item ∷ items) id until zero x is_map is later away at got =
    away_not_got map records item.command is.valid (first_live map place records item items is) id until later away (first_got map place records item items x id is at got)
nobody_got map place records (item ∷ items) id until (suc a) x is_map is later away at got =
    nobody_got map (place + 1) (records_after map records item.command) items id until a x is_map (run_rest map place records item items is_map is) later
    (away_after map records item.command is.valid (first_live map place records item items is) id until later away) at got

-- what an entry got is an item, or a player that was hit
pub got_are_those : (map : MapView) (place : ℕ) (records : List (Option Rec)) (items : List Item) (id a : ℕ) (x : Entry) → IsMap map → IsRun map place records items
    → slice_get (entries_of items) a ≡ Some x → Contains x.reply.got id → IsGot map id
got_are_those map place records [] id a x is_map is at got = absurd (none-some x at)
got_are_those map place records (item ∷ items) id zero x is_map is at got =
    got_is_one map records item.command is.valid (first_live map place records item items is) id (first_got map place records item items x id is at got)
got_are_those map place records (item ∷ items) id (suc a) x is_map is at got =
    got_are_those map (place + 1) (records_after map records item.command) items id a x is_map (run_rest map place records item items is_map is) at got

-- an item that an entry got is away after the run
pub got_through : (map : MapView) (frame place : ℕ) (records : List (Option Rec)) (items : List Item) (id a : ℕ) (x : Entry) → IsMap map → IsItemOf map id → IsRun map place records items
    → All (IsOfFrame frame) (commands_of items) → slice_get (entries_of items) a ≡ Some x → Contains x.reply.got id → IsAwayThen map (after_all map records (commands_of items)) frame id
got_through map frame place records [] id a x is_map of_map is of at got = absurd (none-some x at)
got_through map frame place records (item ∷ items) id zero x is_map of_map is of at got =
    let c = item.command in
    let has = first_live map place records item items is in
    let then_away = got_away map records c is.valid has id of_map (first_got map place records item items x id is at got) in
    let number : c.frame ≡ frame = All-head (IsOfFrame frame) c (commands_of items) of in
    let least = least_delay map id then_away.delay is_map then_away.delay_is in
    let here = subst (λ (n : ℕ). IsAway (records_after map records c) id (n + then_away.delay)) number then_away.away in
    record {
      delay = then_away.delay;
      delay_is = then_away.delay_is;
      away = away_through map (place + 1) (records_after map records c) items id (frame + then_away.delay) is_map (run_rest map place records item items is_map is) (omega (arith, least)) here;
    }
got_through map frame place records (item ∷ items) id (suc a) x is_map of_map is of at got =
    got_through map frame (place + 1) (records_after map records item.command) items id a x is_map of_map (run_rest map place records item items is_map is)
    (All-tail (IsOfFrame frame) item.command (commands_of items) of) at got

-- an item that the first entry got no later one has
not_again : (map : MapView) (place : ℕ) (records : List (Option Rec)) (item : Item) (items : List Item) (id b : ℕ) (x y : Entry) → IsMap map → IsItemOf map id → IsRun map place records (item ∷ items)
    → ◌≡◌ {A = Option Entry} (Some item.entry) (Some x) → slice_get (entries_of items) b ≡ Some y → Contains x.reply.got id → Contains y.reply.got id → ⊥
not_again map place records item items id b x y is_map of_map is at_x at_y got_x got_y =
    let c = item.command in
    let then_away = got_away map records c is.valid (first_live map place records item items is) id of_map (first_got map place records item items x id is at_x got_x) in
    let least = least_delay map id then_away.delay is_map then_away.delay_is in
    nobody_got map (place + 1) (records_after map records c) items id (c.frame + then_away.delay) b y is_map (run_rest map place records item items is_map is) (omega (arith, least)) then_away.away at_y got_y

-- at most one entry has an item
pub one_got : (map : MapView) (place : ℕ) (records : List (Option Rec)) (items : List Item) (id a b : ℕ) (x y : Entry) → IsMap map → IsItemOf map id → IsRun map place records items
    → slice_get (entries_of items) a ≡ Some x → slice_get (entries_of items) b ≡ Some y → Contains x.reply.got id → Contains y.reply.got id → b ≡ a
one_got map place records [] id a b x y is_map of_map is at_a at_b got_x got_y = absurd (none-some x at_a)
one_got map place records (item ∷ items) id zero zero x y is_map of_map is at_a at_b got_x got_y = refl
one_got map place records (item ∷ items) id zero (suc b) x y is_map of_map is at_a at_b got_x got_y = absurd (not_again map place records item items id b x y is_map of_map is at_a at_b got_x got_y)
one_got map place records (item ∷ items) id (suc a) zero x y is_map of_map is at_a at_b got_x got_y = absurd (not_again map place records item items id a y x is_map of_map is at_b at_a got_y got_x)
one_got map place records (item ∷ items) id (suc a) (suc b) x y is_map of_map is at_a at_b got_x got_y =
    ap suc (one_got map (place + 1) (records_after map records item.command) items id a b x y is_map of_map (run_rest map place records item items is_map is) at_a at_b got_x got_y)
