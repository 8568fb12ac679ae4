-- The frames that events close.
use Rattle.std.proofs.Common.{◌≡◌, ℕ, List, [], ◌∷◌, ◌++◌, length, map as map_list, Option, Some, None, option_map, refl, sym, ap, ◌∙◌, subst, append_assoc, append-nil, ◌≤◌, ◌-◌, arith}
use Rattle.std.specs.Prelude.{flat_map}
use Rattle.std.specs.List.{range_with_len}
use Rattle.std.proofs.lemmas.List.{length-map}
use Rattle.std.proofs.lemmas.List.FromFn.{length-map-range_with_len}
use Rattle.packet_read.specs.declared.arrival.Arrival.{Arrival}
use Rattle.demo_lines.specs.declared.event.Event.{Event}
use Rattle.demo_lines.specs.declared.event.Event.TheVariants.{Frame, From, End}
use Rattle.demo_lines.specs.Spelling.{frame_events, recording_events}
use Rattle.move_journal.specs.Logs.{JournalView}
use Rattle.frame_phases.specs.Servers.{ServerView}
use Rattle.demo_make.specs.GeneratedMap.{generated_map}
use Rattle.demo_make.specs.GeneratedFrames.{arrivals_in, generated_frames, generated_events}
use Rattle.match_play.specs.declared.totals.Totals.{Totals}
use Rattle.out_text.specs.Collecting.{closed_frames}
use Rattle.playback.specs.Playbacks.{Course, GoesOn, IsReady, entries_if}
use Rattle.match_play.specs.Games.{GameView, Plays, new_game, journals_after, totals_after}
use Rattle.match_play.specs.Matches.{HasEachJournal, entries_of}
use Rattle.match_play.proofs.Playing.{IsUnderWay, under_way-start, under_way-closed, may_close}

-- one packet more of the frame that is open
abbrev with_packet : Arrival → Option (List Arrival) → Option (List Arrival)
with_packet a o = option_map (λ arrivals. arrivals ++ a ∷ []) o

-- the frames that these events close, where these packets are those of the frame that is open
abbrev pub closed_by : Option (List Arrival) → List Event → List (List Arrival)
closed_by o [] = []
closed_by o (Frame ∷ events) = closed_frames o ++ closed_by (Some []) events
closed_by o (From a ∷ events) = closed_by (option_map (λ arrivals. arrivals ++ a ∷ []) o) events
closed_by o (End ∷ events) = closed_frames o ++ closed_by None events

packets-kept : (opened arrivals : List Arrival) (events : List Event) → closed_by (Some opened) (map_list From arrivals ++ events) ≡ closed_by (Some (opened ++ arrivals)) events
packets-kept opened [] events = ap (λ (xs : List Arrival). closed_by (Some xs) events) (sym (append-nil opened))
packets-kept opened (a ∷ arrivals) events =
    packets-kept (opened ++ a ∷ []) arrivals events
    ∙ ap (λ (xs : List Arrival). closed_by (Some xs) events) (append_assoc opened (a ∷ []) arrivals)

frames-closed : (opened : List Arrival) (frames : List (List Arrival)) → closed_by (Some opened) (recording_events frames) ≡ opened ∷ frames
frames-closed opened [] = refl
frames-closed opened (arrivals ∷ frames) =
    ap (λ (events : List Event). closed_by (Some opened) events) (append_assoc (frame_events arrivals) (flat_map frame_events frames) (End ∷ []))
    ∙ ap (λ (fs : List (List Arrival)). opened ∷ fs) (packets-kept [] arrivals (recording_events frames) ∙ frames-closed arrivals frames)

-- a recording closes its frames
pub recording-closes : (frames : List (List Arrival)) → closed_by None (recording_events frames) ≡ frames
recording-closes [] = refl
recording-closes (arrivals ∷ frames) =
    ap (closed_by None) (append_assoc (frame_events arrivals) (flat_map frame_events frames) (End ∷ []))
    ∙ packets-kept [] arrivals (recording_events frames)
    ∙ frames-closed arrivals frames

pub generated-closes : (seed players frames : ℕ) → closed_by None (generated_events seed players frames) ≡ generated_frames seed players frames
unfolding generated_events
generated-closes seed players frames = recording-closes (generated_frames seed players frames)

module _ (seed players workers frames : ℕ) where
  -- the game of a match, in which events with these frames are left
  abbrev pub IsGameUnderWay : GameView → List Event → Type 0
  IsGameUnderWay g events = IsUnderWay seed players workers frames g.course.server g.totals (entries_of g.journals) (closed_by g.course.opened events)

  -- a match begins
  pub under_way-first : (g : GameView) (events : List Event) → g ≡ new_game generated_map → events ≡ generated_events seed players frames → IsGameUnderWay g events
  under_way-first g events fresh events_are =
      subst (λ (h : GameView). IsGameUnderWay h events) (sym fresh)
      (subst (λ (fs : List (List Arrival)). IsUnderWay seed players workers frames (new_game generated_map).course.server (new_game generated_map).totals [] fs) (sym (ap (closed_by None) events_are ∙ generated-closes seed players frames))
      (under_way-start seed players workers frames))

  -- a match goes on by an event
  under_way-event : (old : GameView) (new : Course) (e : Event) (closed : Option JournalView) (more : List Event) → IsGameUnderWay old (e ∷ more) → GoesOn workers old.course new e (entries_if closed)
      → IsUnderWay seed players workers frames new.server (totals_after old.totals old.course.server new.server old.course.opened closed) (entries_of (journals_after old.journals closed)) (closed_by new.opened more)
  under_way-event old new Frame closed more under goes =
      let t = totals_after old.totals old.course.server new.server old.course.opened closed in
      subst (λ (o : Option (List Arrival)). IsUnderWay seed players workers frames new.server t (entries_of (journals_after old.journals closed)) (closed_by o more)) (sym goes.opened_is)
      (under_way-closed seed players workers frames old.course.server new.server old.totals old.journals old.course.opened closed (closed_by (Some []) more) under goes.closes)
  under_way-event old new (From a) None more under goes =
      subst (λ (o : Option (List Arrival)). IsUnderWay seed players workers frames new.server old.totals (entries_of old.journals) (closed_by o more)) (sym goes.opened_is)
      (subst (λ (t : ServerView). IsUnderWay seed players workers frames t old.totals (entries_of old.journals) (closed_by (with_packet a old.course.opened) more)) (sym goes.server) under)
  under_way-event old new (From a) (Some journal) more under goes = let is = goes.none_closed in cc
  under_way-event old new End closed more under goes =
      let t = totals_after old.totals old.course.server new.server old.course.opened closed in
      subst (λ (o : Option (List Arrival)). IsUnderWay seed players workers frames new.server t (entries_of (journals_after old.journals closed)) (closed_by o more)) (sym goes.opened_is)
      (under_way-closed seed players workers frames old.course.server new.server old.totals old.journals old.course.opened closed (closed_by None more) under goes.closes)

  pub under_way-next : (old new : GameView) (e : Event) (more : List Event) → IsGameUnderWay old (e ∷ more) → Plays workers old new e → IsGameUnderWay new more
  under_way-next old new e more under plays =
      subst (λ (t : Totals). IsUnderWay seed players workers frames new.course.server t (entries_of new.journals) (closed_by new.course.opened more)) (sym plays.totals)
      (subst (λ (js : List JournalView). IsUnderWay seed players workers frames new.course.server (totals_after old.totals old.course.server new.course.server old.course.opened plays.closed) (entries_of js) (closed_by new.course.opened more)) (sym plays.kept)
      (under_way-event old new.course e plays.closed more under plays.goes))

  -- the event may come
  pub is_ready : (g : GameView) (e : Event) (more : List Event) → players ≤ 64 → frames ≤ 100000 → IsGameUnderWay g (e ∷ more) → IsReady g.course e
  is_ready g Frame more few_players few_frames under = may_close seed players workers frames g g.course.opened (closed_by (Some []) more) refl few_players few_frames under
  is_ready g (From a) more few_players few_frames under = tt
  is_ready g End more few_players few_frames under = may_close seed players workers frames g g.course.opened (closed_by None more) refl few_players few_frames under

  -- where no event is left, all frames were run
  pub all_run : (g : GameView) (events : List Event) → events ≡ [] → IsGameUnderWay g events → length g.journals ≡ frames
  all_run g events none under =
      let left : [] ≡ map_list (arrivals_in seed players) (range_with_len (length (entries_of g.journals)) (frames - length (entries_of g.journals))) =
      sym (ap (closed_by g.course.opened) none) ∙ under.left_are in
      let count = ap length left ∙ length-map-range_with_len (arrivals_in seed players) (length (entries_of g.journals)) (frames - length (entries_of g.journals)) in
      omega (arith, count, under.within, length-map g.journals (λ (j : JournalView). j.entries))

  -- the game has the journal of each frame that was run
  pub each_kept : (g : GameView) (events : List Event) → IsGameUnderWay g events → HasEachJournal seed players workers g
  each_kept g events under = record {
    count = sym (ap (λ (t : ServerView). t.frames) under.server_is ∙ length-map g.journals (λ (j : JournalView). j.entries));
    server_is = under.server_is;
    right = under.right;
    order = under.order;
  }
