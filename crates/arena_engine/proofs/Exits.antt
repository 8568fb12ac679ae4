-- How the playing of a recording ends, and what was written then.
use Rattle.std.proofs.Common.{◌≡◌, ℕ, true, List, [], ◌∷◌, ◌++◌, Option, Some, None, IfSome, refl, sym, ap, ◌∙◌, subst, append_assoc, append-nil}
use Rattle.std.specs.List.{AllByRecursion}
use Rattle.std.specs.Io.KnownBytes.{Appends, Consumes}
use Rattle.std.proofs.lemmas.Grind.{flat_map-append}
use Rattle.std.proofs.KnownBytes.{Appends-nil, Consumes-trans}
use Rattle.arena_map.specs.Maps.{MapView, IsMap}
use Rattle.entity_recs.specs.declared.effect.Entry.{Entry}
use Rattle.demo_lines.specs.Known.{Reading, start, is_map_whole, is_over}
use Rattle.demo_lines.specs.declared.event.Event.{Event}
use Rattle.demo_lines.specs.Recording.{next, events_of_line, after, events_of}
use Rattle.edge_io.specs.Lines.{HasNoLineFeed}
use Rattle.edge_io.specs.WholeLines.{unlines}
use Rattle.demo_lines.specs.declared.line_refusal.LineRefusal.{LineRefusal}
use Rattle.demo_lines.specs.Bytes.{lines_of}
use Rattle.demo_lines.specs.Reads.{Reads, ReadsFront, EndsAt}
use Rattle.demo_lines.proofs.Machines.{run_of-append, outputs_of-append}
use Rattle.demo_lines.proofs.Parts.{lines_of-unlines}
use Rattle.demo_lines.proofs.Joins.{whole_text}
use Rattle.edge_io.proofs.Feeds.{each_of_both}
use Rattle.out_text.specs.Collecting.{frames_of_events}
use Rattle.packet_read.specs.declared.arrival.Arrival.{Arrival}
use Rattle.arena_engine.specs.declared.feeding.Feeding.{Feeding}
use Rattle.arena_engine.specs.Feedings.{Last, no_last, AreFed, IsLastOf, fed_text}
use Rattle.arena_engine.specs.Output.{Writes, ReadsSome}
use Rattle.arena_engine.specs.Texts.{Texts, texts_of}
use Rattle.demo_lines.proofs.MapGiven.{after-whole, after-kept}
use Rattle.demo_lines.proofs.Continuing.{cut_after_lines, IsCutAt}
use Rattle.demo_lines.proofs.Counting.{going-before}
use Rattle.out_text.proofs.Fronts.{AreRun}
use Rattle.arena_engine.proofs.FedTexts.{HoldAtFirst, some_right, all_right, refused_right}
use Rattle.arena_engine.proofs.Continuing.{continues, continues_lines, map_of-whole, frames_of-all, goes_on_frames}

-- ---- before the first event

-- the lines of a text in which each has its line feed
pub lines_of-whole : (lines : List (List ℕ)) → AllByRecursion HasNoLineFeed lines → lines_of (unlines lines) ≡ lines
lines_of-whole lines each = ap lines_of (sym (append-nil (unlines lines))) ∙ lines_of-unlines lines [] each ∙ append-nil lines

module _ (texts : Texts) (hold : HoldAtFirst texts) (t : Option (List ℕ)) (last : Last) (none : last ≡ no_last) where
  -- nothing was written, of no frame
  nothing : (Is : Last → List ℕ → Type 0) → Is no_last [] → Writes t t (Is last)
  nothing Is holds = record { text = []; written = Appends-nil t; holds = subst (λ (l : Last). Is l []) (sym none) holds }

  -- memory was refused before the first event was played
  pub memory_at_first : (a : Option (List ℕ)) → IfSome a (λ bytes. Writes t t (texts.some_frames bytes last))
  memory_at_first None = tt
  memory_at_first (Some bytes) = nothing (texts.some_frames bytes) (hold.some_frames bytes)

  -- the recording was refused before it gave an event
  pub refused_at_first : (a : Option (List ℕ)) (why : LineRefusal) → IfSome a (EndsAt start why) → IfSome a (λ bytes. Writes t t (texts.refused bytes why last))
  refused_at_first None why ends = tt
  refused_at_first (Some bytes) why ends = nothing (texts.refused bytes why) (hold.refused bytes why ends.fault ends.events)

  -- the source failed before the first event
  pub fault_at_first : (a l : Option (List ℕ)) → ReadsFront start a l [] → ReadsSome (λ bytes. texts.all_frames bytes last) a l t t
  fault_at_first a l reads = record {
    lines = reads.lines;
    front = reads.front;
    each = reads.each;
    one_line = reads.one_line;
    fits = reads.fits;
    going = reads.going;
    consumed = reads.consumed;
    frames = nothing (texts.all_frames (unlines reads.lines)) (hold.all_frames (unlines reads.lines) (ap (events_of start) (lines_of-whole reads.lines reads.each) ∙ reads.events));
  }

-- ---- while frames are played

module _ (feeding : Feeding) (workers : ℕ) (arena : MapView) (r : Reading) (a b : Option (List ℕ)) (t0 t1 : Option (List ℕ)) (es : List Event) (feeds : List (List Arrival)) (js : List (List Entry)) (last : Last) where
  -- all events so far were played, in this order of arrival and with these journals, the last of which are `last`
  pub record Played : Type 0 where
    pub reads : Reads start r a b es
    pub whole : is_map_whole r.stage ≡ true
    pub map : r.map ≡ Some arena
    pub is_map : IsMap arena
    pub fed : AreFed feeding (frames_of_events es).closed feeds
    pub run : AreRun workers arena feeds js
    pub last_is : IsLastOf feeding last (frames_of_events es).closed feeds js
    pub written : Appends t0 t1 (fed_text feeding arena feeds js)

  -- memory was refused
  pub memory_on : Played → IfSome a (λ bytes. Writes t0 t1 ((texts_of feeding workers).some_frames bytes last))
  memory_on played =
      continues r a b es (λ bytes. Writes t0 t1 ((texts_of feeding workers).some_frames bytes last)) played.reads (λ bytes rest is so.
      let has = map_of-whole r es bytes rest arena so played.whole played.map in
      let closed = (frames_of_events es).closed in
      let on = goes_on_frames r es bytes rest so in
      record {
        text = fed_text feeding arena feeds js;
        written = played.written;
        holds = some_right feeding workers bytes arena closed feeds js last (record { played = record { has = has; is_map = played.is_map }; on = on; fed = played.fed; run = played.run }) played.last_is;
      })

  -- the recording was refused
  pub refused_on : (why : LineRefusal) → Played → IfSome b (EndsAt r why) → IfSome a (λ bytes. Writes t0 t1 ((texts_of feeding workers).refused bytes why last))
  refused_on why played ends =
      continues r a b es (λ bytes. Writes t0 t1 ((texts_of feeding workers).refused bytes why last)) played.reads (λ bytes rest is so.
      let here : EndsAt r why rest = let P : Option (List ℕ) → Type 0 = λ o. IfSome o (EndsAt r why) in subst P is ends in
      let has = map_of-whole r es bytes rest arena so played.whole played.map in
      let closed = (frames_of_events es).closed in
      let on = goes_on_frames r es bytes rest so in
      record {
        text = fed_text feeding arena feeds js;
        written = played.written;
        holds = refused_right feeding workers bytes arena closed feeds js last why (record { played = record { has = has; is_map = played.is_map }; on = on; fed = played.fed; run = played.run }) played.last_is (frames_of-all r es bytes rest so here.events) (so.fault_is ∙ here.fault);
      })

  -- the source failed
  pub fault_on : (l : Option (List ℕ)) → Played → ReadsFront r b l [] → ReadsSome (λ bytes. (texts_of feeding workers).all_frames bytes last) a l t0 t1
  fault_on l played reads =
      let lines = played.reads.lines ++ reads.lines in
      let u = after r reads.lines in
      let bytes = unlines lines in
      let each = each_of_both HasNoLineFeed played.reads.lines reads.lines played.reads.each reads.each in
      let taken = whole_text start r played.reads.lines played.reads.text b played.reads.reached (going-before r reads.lines reads.going) played.reads.spelled in
      let joined : unlines lines ++ reads.front ≡ unlines played.reads.lines ++ (unlines reads.lines ++ reads.front) =
      ap (λ bs. bs ++ reads.front) (flat_map-append (λ line. line ++ 10 ∷ []) played.reads.lines reads.lines)
      ∙ append_assoc (unlines played.reads.lines) (unlines reads.lines) reads.front in
      let reached : u ≡ after start lines =
      ap (λ t. after t reads.lines) played.reads.reached ∙ sym (run_of-append next events_of_line start played.reads.lines reads.lines) in
      let given : events_of start lines ≡ es =
      outputs_of-append next events_of_line start played.reads.lines reads.lines
      ∙ ap (λ t. events_of start played.reads.lines ++ events_of t reads.lines) (sym played.reads.reached)
      ∙ ap (λ xs. events_of start played.reads.lines ++ xs) reads.events ∙ append-nil (events_of start played.reads.lines) ∙ played.reads.events in
      let cut = subst (λ bs. IsCutAt u lines bs []) (append-nil bytes) (cut_after_lines u lines [] each) in
      let so = continues_lines u lines es bytes [] cut reached given in
      let has = map_of-whole u es bytes [] arena so (after-whole r reads.lines played.whole) (after-kept r reads.lines played.whole ∙ played.map) in
      record {
        lines = lines;
        front = reads.front;
        each = each;
        one_line = reads.one_line;
        fits = reads.fits;
        going = ap (λ (t : Reading). is_over t.stage) (sym reached) ∙ reads.going;
        consumed = subst (Consumes a l) (sym joined)
            (Consumes-trans a b l (unlines played.reads.lines) (unlines reads.lines ++ reads.front) (subst (Consumes a b) taken played.reads.consumed) reads.consumed);
        frames =
            let closed = (frames_of_events es).closed in
            let on = goes_on_frames u es bytes [] so in
            record {
              text = fed_text feeding arena feeds js;
              written = played.written;
              holds = all_right feeding workers bytes arena closed feeds js last (record { played = record { has = has; is_map = played.is_map }; on = on; fed = played.fed; run = played.run }) played.last_is (frames_of-all u es bytes [] so refl);
            };
      }
