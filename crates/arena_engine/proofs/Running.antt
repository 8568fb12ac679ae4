-- The loop that plays a recording, and its exits.
use Rattle.std.proofs.Common.{◌≡◌, ℕ, ◌+◌, ◌≤◌, Bool, true, false, List, [], ◌∷◌, ◌++◌, length, Option, Some, None, IfSome, IsSomeAnd, ◌⊎◌, inl, inr, refl, sym, ap, ◌∙◌, subst, arith, length-append, append-nil}
use Rattle.std.specs.Io.KnownBytes.{Appends}
use Rattle.std.proofs.KnownBytes.{prepend_known-nil}
use Rattle.edge_io.specs.Counts.{HasRisen}
use Rattle.edge_io.specs.Lines.{ahead, HasNotReadAhead}
use Rattle.edge_io.proofs.ReadingAhead.{HasNotReadAhead-trans}
use Rattle.edge_io.specs.Writes.{AppendsPart}
use Rattle.arena_map.specs.Maps.{MapView, IsMap}
use Rattle.demo_lines.specs.declared.event.Event.{Event}
use Rattle.demo_lines.specs.declared.event.Event.TheVariants.{Frame, From, End}
use Rattle.demo_lines.specs.declared.demo_stop.DemoStop.{DemoStop}
use Rattle.demo_lines.specs.declared.demo_stop.DemoStop.TheVariants as demo_stop
use Rattle.demo_lines.specs.Known.{Reading, start, is_over, is_map_whole, without_map, having_map}
use Rattle.demo_lines.specs.declared.line_refusal.LineRefusal.{LineRefusal}
use Rattle.demo_lines.specs.Readings.{IsReading}
use Rattle.demo_lines.specs.Reads.{DemoReaderView, fresh_reader, map_taken, IsOpen, Reads, ReadsFront, TakesCutEnd, Refuses, EndsAt, stage_after}
use Rattle.demo_lines.specs.Reads as reads_of
use Rattle.demo_lines.proofs.Walks.{whole_after}
use Rattle.demo_lines.proofs.Given.{Reads-given, Reads-no_map, ReadsFront-given, EndsAt-given, Refuses-given}
use Rattle.out_text.specs.OutLines.{text_of}
use Rattle.arena_engine.specs.declared.stop.Stop.{Stop}
use Rattle.arena_engine.specs.declared.stop.Stop.TheVariants.{Refused, ReadFault, WriteFault, NoMemory}
use Rattle.arena_engine.specs.StopOf.{stop_of}
use Rattle.arena_engine.specs.Stops.{OnRefused, OnReadFault, OnWriteFault, OnMemory}
use Rattle.out_text.specs.Printers.{Prints, FailsIn}
use Rattle.playback.specs.Playbacks.{IsReady}
use Rattle.arena_engine.specs.declared.feeding.Feeding.{Feeding}
use Rattle.arena_engine.specs.Feedings.{Last, no_last}
use Rattle.arena_engine.specs.Texts.{Texts, texts_of}
use Rattle.arena_engine.specs.Games.{GameView, Closing, new_game, Advances, Plays, event_lines, is_end}
use Rattle.arena_engine.specs.Progress.{Progress, Runs, ReadsAsNeeded}
use Rattle.arena_engine.specs.Output.{Writes, ReadsSome, ReadsToEnd, ReadsToRefusal}
use Rattle.arena_engine.proofs.Exits.{refused_at_first, fault_at_first, refused_on, fault_on}
use Rattle.arena_engine.proofs.FedTexts.{HoldAtFirst}
use Rattle.arena_engine.proofs.Exits as exits
use Rattle.demo_lines.proofs.Consumed.{refusal_on, cut_end_after}
use Rattle.arena_engine.proofs.Playing.{not_over, is_ready, memory_on, cut_on, done_on, whole_on, played_on, text_so_far, fits_on, goes_on, begins}

-- before the end no more was read than was needed, and the input's end wasn't given
pub needed_going : (e : Event) (P Q R : Type 0) → is_end e ≡ false → P ⊎ ((e ≡ End) × Q × R) → P
needed_going e P Q R going (inl h) = h
needed_going e P Q R going (inr (is, q, r)) = let last : is_end e ≡ true = ap is_end is in cc

-- ---- the reader is fresh

pub fresh_is_open : IsOpen fresh_reader
fresh_is_open = record { no_stop = refl; not_over = refl }

pub read_fault_of : (d : DemoStop) (P Q : Type 0) → (P → Q) → reads_of.OnReadFault d P → OnReadFault (stop_of d) Q
read_fault_of (demo_stop.Refused line fault rule) P Q f p = tt
read_fault_of demo_stop.ReadFault P Q f p = f p
read_fault_of demo_stop.NoMemory P Q f p = tt

pub refused_of : (d : DemoStop) (P Q : LineRefusal → Type 0) → ((why : LineRefusal) → P why → Q why) → reads_of.OnRefused d P → OnRefused (stop_of d) Q
refused_of (demo_stop.Refused line fault rule) P Q f p = f _ p
refused_of demo_stop.ReadFault P Q f p = tt
refused_of demo_stop.NoMemory P Q f p = tt

-- a reader's stop is lack of memory, where P holds
pub no_memory_of : (d : DemoStop) (P : Type 0) → P → OnMemory (stop_of d) P
no_memory_of (demo_stop.Refused line fault rule) P p = tt
no_memory_of demo_stop.ReadFault P p = tt
no_memory_of demo_stop.NoMemory P p = p

-- it is a read fault, where P holds
pub any_read_fault : (d : DemoStop) (P : Type 0) → P → OnReadFault (stop_of d) P
any_read_fault (demo_stop.Refused line fault rule) P p = tt
any_read_fault demo_stop.ReadFault P p = p
any_read_fault demo_stop.NoMemory P p = tt

module _ (texts : Texts) (hold : HoldAtFirst texts) (demo : DemoReaderView) (d : DemoStop) (l t : Option (List ℕ)) (last : Last) (none : last ≡ no_last) (is : demo ≡ fresh_reader) where
  pub first_refused : (IsOpen demo → reads_of.OnRefused d (λ why. IfSome (ahead demo.pending l) (EndsAt demo.reading why)))
      → OnRefused (stop_of d) (λ why. IfSome l (λ bytes. Writes t t (texts.refused bytes why last)))
  first_refused h =
      let P : DemoReaderView → Type 0 = λ x. IsOpen x → reads_of.OnRefused d (λ why. IfSome (ahead x.pending l) (EndsAt x.reading why)) in
      let at_first = subst P is h fresh_is_open in
      let Q : LineRefusal → Option (List ℕ) → Type 0 = λ why o. IfSome o (EndsAt start why) in
      refused_of d (λ why. IfSome (ahead [] l) (EndsAt start why)) (λ why. IfSome l (λ bytes. Writes t t (texts.refused bytes why last)))
      (λ why ends. refused_at_first texts hold t last none l why (subst (Q why) (prepend_known-nil l) ends)) at_first

  pub first_fault : (l' : Option (List ℕ)) → (IsOpen demo → reads_of.OnReadFault d (ReadsFront demo.reading (ahead demo.pending l) l' [])) → OnReadFault (stop_of d) (ReadsSome (λ bytes. texts.all_frames bytes last) l l' t t)
  first_fault l' h =
      let P : DemoReaderView → Type 0 = λ x. IsOpen x → reads_of.OnReadFault d (ReadsFront x.reading (ahead x.pending l) l' []) in
      let Q : Option (List ℕ) → Type 0 = λ o. ReadsFront start o l' [] in
      read_fault_of d (ReadsFront start (ahead [] l) l' []) (ReadsSome (λ bytes. texts.all_frames bytes last) l l' t t) (λ reads. fault_at_first texts hold t last none l l' (subst Q (prepend_known-nil l) reads)) (subst P is h fresh_is_open)

pub first_event : (feeding : Feeding) (workers : ℕ) (demo : DemoReaderView) (r : Reading) (l b t : Option (List ℕ)) (e : Event) (arena : MapView) (g : GameView) → demo ≡ fresh_reader
    → (IsOpen demo → Reads demo.reading r (ahead demo.pending l) b (e ∷ [])) → r.stage ≡ stage_after e → IsReading r → r.map ≡ Some arena → IsMap arena → g ≡ new_game arena
    → Progress feeding workers arena r l b t t g e
first_event feeding workers demo r l b t e arena g is h stage holds has is_map sets =
    let P : DemoReaderView → Type 0 = λ x. IsOpen x → Reads x.reading r (ahead x.pending l) b (e ∷ []) in
    let Q : Option (List ℕ) → Type 0 = λ o. Reads start r o b (e ∷ []) in
    begins feeding workers arena r l b t g e (subst Q (prepend_known-nil l) (subst P is h fresh_is_open)) stage (let few = holds.frames in let most = holds.limit in omega (arith, few, most)) holds.arrivals has is_map sets

-- the map is whole then
pub map_is_given : (r : Reading) (e : Event) → r.stage ≡ stage_after e → is_map_whole r.stage ≡ true
map_is_given r e stage = ap is_map_whole stage ∙ whole_after e

-- ---- in the loop

pub end_is_end : (e : Event) → is_end e ≡ true → e ≡ End
end_is_end Frame h = cc
end_is_end (From a) h = cc
end_is_end End h = refl

-- what was printed with nothing pending before and after was written
pub appends_all : {K : Type 0} (taken : K → Option (List ℕ)) (faults room : K → ℕ) (k1 k2 : K) (text : List ℕ) → Prints taken faults room k1 k2 [] [] text → Appends (taken k1) (taken k2) text
appends_all taken faults room k1 k2 text prints = subst (Appends (taken k1) (taken k2)) (sym (prints.whole ∙ append-nil prints.written)) prints.appended

-- and the room that is left is less by as much
pub room_after : {K : Type 0} (taken : K → Option (List ℕ)) (faults room : K → ℕ) (k1 k2 : K) (text : List ℕ) → Prints taken faults room k1 k2 [] [] text → room k1 ≤ room k2 + length text
room_after taken faults room k1 k2 text prints = let is = ap length (prints.whole ∙ append-nil prints.written) in omega (arith, is, prints.roomy)

module _ (feeding : Feeding) (workers : ℕ) (demo : DemoReaderView) (a b t0 t1 : Option (List ℕ)) (g : GameView) (e : Event) (m0 m1 n0 n1 k0 k1 : ℕ) (runs : Runs feeding workers demo a b t0 t1 g e m0 m1 n0 n1 k0 k1) where
  pub game_is_ready : IsReady g.course e
  game_is_ready = is_ready feeding workers runs.arena runs.full a b t0 t1 g e runs.progress

  map_is_whole : is_map_whole runs.full.stage ≡ true
  map_is_whole = map_is_given runs.full e runs.progress.stage

  pub reader_is_open : is_end e ≡ false → IsOpen demo
  reader_is_open going = record { no_stop = runs.no_stop; not_over = ap (λ (r : Reading). is_over r.stage) runs.given ∙ ap is_over runs.progress.stage ∙ not_over e going }

  pub memory_failed : (s : Stop) (g2 : GameView) (t2 : Option (List ℕ)) (last : Last) → last ≡ g2.last → OnMemory s (g2.last ≡ g.last) → OnMemory s (t2 ≡ t1)
      → OnMemory s (IfSome a (λ bytes. Writes t0 t2 ((texts_of feeding workers).some_frames bytes last)))
  memory_failed (Refused why) g2 t2 last is kept same = tt
  memory_failed ReadFault g2 t2 last is kept same = tt
  memory_failed WriteFault g2 t2 last is kept same = tt
  memory_failed NoMemory g2 t2 last is kept same =
      let P : Option (List ℕ) → Type 0 = λ t. IfSome a (λ bytes. Writes t0 t ((texts_of feeding workers).some_frames bytes last)) in
      let Q : Last → Type 0 = λ l. IfSome a (λ bytes. Writes t0 t1 ((texts_of feeding workers).some_frames bytes l)) in
      subst P (sym same) (subst Q (sym (is ∙ kept)) (memory_on feeding workers runs.arena runs.full a b t0 t1 g e runs.progress))

  pub all_read : {S : Type 0} (last : S → ℕ) (ended : S → Bool) (sure : S → Type 0) (s0 s1 : S) (pending : List ℕ) (l : Option (List ℕ)) → is_end e ≡ true → b ≡ ahead pending l
      → ReadsAsNeeded last ended sure a b s0 s1 pending e → ReadsToEnd s0 s1 (last s1) (ended s1 ≡ ended s0) (ended s1 ≡ true) a l
  all_read last ended sure s0 s1 pending l is_last is unread =
      whole_on feeding workers runs.arena runs.full a b t0 t1 g e runs.progress s0 s1 (last s1) (ended s1 ≡ ended s0) (ended s1 ≡ true) pending l (end_is_end e is_last) is (by_end unread.needed)
    where
      by_end : {P Q R : Type 0} → P ⊎ ((e ≡ End) × Q × R) → P ⊎ (Q × R)
      by_end (inl h) = inl h
      by_end (inr (end, q, r)) = inr (q, r)

  pub next_refusal : {S : Type 0} (last : S → ℕ) (ended : S → Bool) (sure : S → Type 0) (s0 s1 s2 : S) (d : DemoStop) (pending : List ℕ) (l : Option (List ℕ)) → is_end e ≡ false
      → ReadsAsNeeded last ended sure a b s0 s1 demo.pending e
      → (IsOpen demo → reads_of.OnRefused d (λ why. Refuses demo.reading b (ahead pending l) why.line
      (HasNotReadAhead s1 s2 (last s2) demo.pending pending × (ended s2 ≡ ended s1)) (ended s2 ≡ true)))
      → OnRefused (stop_of d) (λ _. ReadsToRefusal s0 s2 (last s2) (ended s2 ≡ ended s0) (ended s2 ≡ true) a l)
  next_refusal last ended sure s0 s1 s2 d pending l going unread h =
      let P = HasNotReadAhead s1 s2 (last s2) demo.pending pending × (ended s2 ≡ ended s1) in
      let R : Reading → LineRefusal → Type 0 = λ r why. Refuses r b (ahead pending l) why.line P (ended s2 ≡ true) in
      let so_far = needed_going e (HasNotReadAhead s0 s1 (last s1) [] demo.pending × (ended s1 ≡ ended s0)) (TakesCutEnd a b) (ended s1 ≡ true) going unread.needed in
      refused_of d (R demo.reading) (λ _. ReadsToRefusal s0 s2 (last s2) (ended s2 ≡ ended s0) (ended s2 ≡ true) a l)
      (λ why refuses. refusal_on start last s0 s1 s2 runs.full a b l (runs.progress.events ++ e ∷ []) why.line demo.pending pending (ended s2 ≡ ended s1) (ended s2 ≡ ended s0) (ended s2 ≡ true)
      runs.progress.reads so_far.0 (λ same. same ∙ so_far.1)
      (Refuses-given runs.full map_is_whole b (ahead pending l) why.line P (ended s2 ≡ true) (subst (λ (r : Reading). R r why) runs.given refuses)))
      (h (reader_is_open going))

  pub next_cause : (d : DemoStop) (m2 : ℕ) → is_end e ≡ false → (IsOpen demo → reads_of.OnReadFault d (HasRisen m1 m2)) → OnReadFault (stop_of d) (HasRisen m0 m2)
  next_cause d m2 going h =
      read_fault_of d (HasRisen m1 m2) (HasRisen m0 m2) (λ risen. subst (λ m. HasRisen m m2) runs.read_same risen) (h (reader_is_open going))

  pub write_failed : {K : Type 0} (taken : K → Option (List ℕ)) (faults : K → ℕ) (k1 k2 : K) (s : Stop) (g2 : GameView) (last : Last) → taken k1 ≡ t1 → last ≡ g2.last
      → OnWriteFault s (Plays feeding workers g g2 e (λ lines. FailsIn taken faults k1 k2 (text_of lines))) → OnWriteFault s (IfSome a (λ bytes. Writes t0 (taken k2) ((texts_of feeding workers).cut bytes last)))
  write_failed taken faults k1 k2 (Refused why) g2 last here is failed = tt
  write_failed taken faults k1 k2 ReadFault g2 last here is failed = tt
  write_failed taken faults k1 k2 WriteFault g2 last here is failed =
      let P : Last → Type 0 = λ l. IfSome a (λ bytes. Writes t0 (taken k2) ((texts_of feeding workers).cut bytes l)) in
      let part = subst (λ (t : Option (List ℕ)). AppendsPart t (taken k2) (text_of (event_lines g.course g2.course e failed.closed))) here failed.lines.part in
      subst P (sym is) (cut_on feeding workers runs.arena runs.full a b t0 t1 g e runs.progress g2 failed.closed failed.advances (taken k2) part)
  write_failed taken faults k1 k2 NoMemory g2 last here is failed = tt

  -- a write that failed was counted
  pub write_counted : {K : Type 0} (taken : K → Option (List ℕ)) (faults : K → ℕ) (k1 k2 : K) (s : Stop) (g2 : GameView) → faults k1 ≡ n1
      → OnWriteFault s (Plays feeding workers g g2 e (λ lines. FailsIn taken faults k1 k2 (text_of lines))) → OnWriteFault s (HasRisen n0 (faults k2))
  write_counted taken faults k1 k2 (Refused why) g2 here failed = tt
  write_counted taken faults k1 k2 ReadFault g2 here failed = tt
  write_counted taken faults k1 k2 WriteFault g2 here failed = subst (λ (n : ℕ). HasRisen n (faults k2)) (here ∙ runs.write_same) failed.lines.risen
  write_counted taken faults k1 k2 NoMemory g2 here failed = tt

  -- where the sink has room for every right output, this text fits
  pub not_cut : (s : Stop) (g2 : GameView) → OnWriteFault s (Plays feeding workers g g2 e (λ lines. length (text_of lines) ≤ k1 → ⊥)) → IsSomeAnd a (λ bytes. (texts_of feeding workers).has_room bytes k0) → OnWriteFault s ⊥
  not_cut (Refused why) g2 sure roomy = tt
  not_cut ReadFault g2 sure roomy = tt
  not_cut WriteFault g2 sure roomy = sure.lines (fits_on feeding workers runs.arena runs.full a b t0 t1 g e runs.progress g2 sure.closed sure.advances k0 k1 roomy runs.roomy)
  not_cut NoMemory g2 sure roomy = tt

  -- ---- the event was played

  module _ (g2 : GameView) (t2 : Option (List ℕ)) (closed : Option Closing) (goes : Advances feeding workers g g2 e closed) (written : Appends t1 t2 (text_of (event_lines g.course g2.course e closed))) where
    module _ (last : Last) (ends : last ≡ g2.last) where
      with_last : (P : Last → Type 0) → P g2.last → P last
      with_last P p = subst P (sym ends) p

      pub all_done : is_end e ≡ true → IfSome a (λ bytes. Writes t0 t2 ((texts_of feeding workers).whole bytes last))
      all_done is_last =
          with_last (λ l. IfSome a (λ bytes. Writes t0 t2 ((texts_of feeding workers).whole bytes l))) (done_on feeding workers runs.arena runs.full a b t0 t1 g e runs.progress g2 closed goes t2 (end_is_end e is_last) written)

      pub next_refused : (d : DemoStop) → is_end e ≡ false → (IsOpen demo → reads_of.OnRefused d (λ why. IfSome b (EndsAt demo.reading why)))
          → OnRefused (stop_of d) (λ why. IfSome a (λ bytes. Writes t0 t2 ((texts_of feeding workers).refused bytes why last)))
      next_refused d going h =
          let R : Reading → LineRefusal → Type 0 = λ r why. IfSome b (EndsAt r why) in
          with_last (λ l. OnRefused (stop_of d) (λ why. IfSome a (λ bytes. Writes t0 t2 ((texts_of feeding workers).refused bytes why l))))
          (refused_of d (R demo.reading) (λ why. IfSome a (λ bytes. Writes t0 t2 ((texts_of feeding workers).refused bytes why g2.last)))
          (λ why at_end. refused_on feeding workers runs.arena runs.full a b t0 t2 (runs.progress.events ++ e ∷ []) _ _ _ why (played_on feeding workers runs.arena runs.full a b t0 t1 g e runs.progress g2 closed goes t2 going written)
          (ends_given why b (subst (λ (r : Reading). R r why) runs.given at_end)))
          (h (reader_is_open going)))
        where
          ends_given : (why : LineRefusal) (o : Option (List ℕ)) → IfSome o (EndsAt (without_map runs.full) why) → IfSome o (EndsAt runs.full why)
          ends_given why None at_end = tt
          ends_given why (Some bytes) at_end = EndsAt-given runs.full map_is_whole why bytes at_end

      pub next_fault : (d : DemoStop) (l : Option (List ℕ)) → is_end e ≡ false → (IsOpen demo → reads_of.OnReadFault d (ReadsFront demo.reading b l []))
          → OnReadFault (stop_of d) (ReadsSome (λ bytes. (texts_of feeding workers).all_frames bytes last) a l t0 t2)
      next_fault d l going h =
          let R : Reading → Type 0 = λ r. ReadsFront r b l [] in
          with_last (λ j. OnReadFault (stop_of d) (ReadsSome (λ bytes. (texts_of feeding workers).all_frames bytes j) a l t0 t2))
          (read_fault_of d (R demo.reading) (ReadsSome (λ bytes. (texts_of feeding workers).all_frames bytes g2.last) a l t0 t2)
          (λ reads. fault_on feeding workers runs.arena runs.full a b t0 t2 (runs.progress.events ++ e ∷ []) _ _ _ l (played_on feeding workers runs.arena runs.full a b t0 t1 g e runs.progress g2 closed goes t2 going written)
          (ReadsFront-given runs.full map_is_whole b l [] (subst R runs.given reads)))
          (h (reader_is_open going)))

      -- the text is that of the frames before
      front_on : is_end e ≡ false → IfSome a (λ bytes. Writes t0 t2 ((texts_of feeding workers).some_frames bytes last))
      front_on going =
          with_last (λ l. IfSome a (λ bytes. Writes t0 t2 ((texts_of feeding workers).some_frames bytes l)))
          (exits.memory_on feeding workers runs.arena runs.full a b t0 t2 (runs.progress.events ++ e ∷ []) _ _ _ (played_on feeding workers runs.arena runs.full a b t0 t1 g e runs.progress g2 closed goes t2 going written))

      pub next_front : (d : DemoStop) → is_end e ≡ false → OnReadFault (stop_of d) (IfSome a (λ bytes. Writes t0 t2 ((texts_of feeding workers).some_frames bytes last)))
      next_front d going = any_read_fault d (IfSome a (λ bytes. Writes t0 t2 ((texts_of feeding workers).some_frames bytes last))) (front_on going)

      pub next_no_memory : (d : DemoStop) → is_end e ≡ false → OnMemory (stop_of d) (IfSome a (λ bytes. Writes t0 t2 ((texts_of feeding workers).some_frames bytes last)))
      next_no_memory d going = no_memory_of d (IfSome a (λ bytes. Writes t0 t2 ((texts_of feeding workers).some_frames bytes last))) (front_on going)

    pub runs_on : (demo' : DemoReaderView) (b' : Option (List ℕ)) (e' : Event) (m2 n2 k2 : ℕ) → is_end e ≡ false
        → (IsOpen demo → Reads demo.reading demo'.reading b b' (e' ∷ [])) → demo'.reading.stage ≡ stage_after e' → IsReading demo'.reading → demo'.stop ≡ None → m2 ≡ m1 → n2 ≡ n1
        → k1 ≤ k2 + length (text_of (event_lines g.course g2.course e closed)) → Runs feeding workers demo' a b' t0 t2 g2 e' m0 m2 n0 n2 k0 k2
    runs_on demo' b' e' m2 n2 k2 going reads stage holds no_stop read_on write_on room_on =
        let so_far = text_so_far feeding workers runs.arena runs.full a b t0 t1 g e runs.progress g2 closed goes in
        let left = runs.roomy in
        let here : Reads (without_map runs.full) demo'.reading b b' (e' ∷ []) =
        let R : Reading → Type 0 = λ r. Reads r demo'.reading b b' (e' ∷ []) in subst R runs.given (reads (reader_is_open going)) in
        let next = goes_on feeding workers runs.arena runs.full a b t0 t1 g e runs.progress g2 closed goes (having_map runs.full.map demo'.reading) b' t2 e' going written
        (Reads-given runs.full map_is_whole demo'.reading b b' (e' ∷ []) here) stage (let few = holds.frames in let most = holds.limit in omega (arith, few, most)) holds.arrivals in
        let text = ap length next.text ∙ length-append so_far (text_of (event_lines g.course g2.course e closed)) in
        record {
          arena = runs.arena;
          full = having_map runs.full.map demo'.reading;
          given = Reads-no_map runs.full map_is_whole demo'.reading b b' (e' ∷ []) here;
          progress = next.progress;
          no_stop = no_stop;
          read_same = read_on ∙ runs.read_same;
          write_same = write_on ∙ runs.write_same;
          roomy = omega (arith, text, left, room_on);
        }

  -- more was read, for one event more
  pub needed_on : {S : Type 0} (last : S → ℕ) (ended : S → Bool) (sure : S → Type 0) (s0 s1 s2 : S) (pending' : List ℕ) (c : Option (List ℕ)) (e' : Event) → is_end e ≡ false
      → ReadsAsNeeded last ended sure a b s0 s1 demo.pending e
      → (IsOpen demo → (HasNotReadAhead s1 s2 (last s2) demo.pending pending' × (ended s2 ≡ ended s1)) ⊎ ((e' ≡ End) × TakesCutEnd b c × (ended s2 ≡ true)))
      → (sure s1 → sure s2) → ReadsAsNeeded last ended sure a c s0 s2 pending' e'
  needed_on last ended sure s0 s1 s2 pending' c e' going unread more keeps =
      let so_far = needed_going e (HasNotReadAhead s0 s1 (last s1) [] demo.pending × (ended s1 ≡ ended s0)) (TakesCutEnd a b) (ended s1 ≡ true) going unread.needed in
      let open_still = ap is_over runs.progress.stage ∙ not_over e going in
      record { needed = by_end so_far open_still (more (reader_is_open going)); keeps = λ h. keeps (unread.keeps h) }
    where
      by_end : HasNotReadAhead s0 s1 (last s1) [] demo.pending × (ended s1 ≡ ended s0) → is_over runs.full.stage ≡ false
          → (HasNotReadAhead s1 s2 (last s2) demo.pending pending' × (ended s2 ≡ ended s1)) ⊎ ((e' ≡ End) × TakesCutEnd b c × (ended s2 ≡ true))
          → (HasNotReadAhead s0 s2 (last s2) [] pending' × (ended s2 ≡ ended s0)) ⊎ ((e' ≡ End) × TakesCutEnd a c × (ended s2 ≡ true))
      by_end so_far open_still (inl (needed, same)) = inl (HasNotReadAhead-trans last s0 s1 s2 [] demo.pending pending' so_far.0 needed, same ∙ so_far.1)
      by_end so_far open_still (inr (end, cut, at)) =
          inr (end, cut_end_after start runs.full a b c (runs.progress.events ++ e ∷ []) runs.progress.reads open_still cut, at)

module _ {S : Type 0} (last : S → ℕ) (ended : S → Bool) (sure : S → Type 0) where
  -- the first reads
  pub needed_first : (s0 s1 : S) (demo demo' : DemoReaderView) (l b : Option (List ℕ)) (e : Event) → demo ≡ fresh_reader
      → (IsOpen demo → (HasNotReadAhead s0 s1 (last s1) demo.pending demo'.pending × (ended s1 ≡ ended s0)) ⊎ ((e ≡ End) × TakesCutEnd (ahead demo.pending l) b × (ended s1 ≡ true)))
      → (sure s0 → sure s1) → ReadsAsNeeded last ended sure l b s0 s1 demo'.pending e
  needed_first s0 s1 demo demo' l b e is needed keeps =
      let P : DemoReaderView → Type 0 = λ d.
      IsOpen d → (HasNotReadAhead s0 s1 (last s1) d.pending demo'.pending × (ended s1 ≡ ended s0)) ⊎ ((e ≡ End) × TakesCutEnd (ahead d.pending l) b × (ended s1 ≡ true)) in
      let Q : Option (List ℕ) → Type 0 = λ o. (HasNotReadAhead s0 s1 (last s1) [] demo'.pending × (ended s1 ≡ ended s0)) ⊎ ((e ≡ End) × TakesCutEnd o b × (ended s1 ≡ true)) in
      record { needed = subst Q (prepend_known-nil l) (subst P is needed fresh_is_open); keeps = keeps }

  -- the first event was read, and then the map was given out
  pub runs_first : (feeding : Feeding) (workers : ℕ) (demo' taken : DemoReaderView) (arena : MapView) (a l t : Option (List ℕ)) (g : GameView) (e : Event) (m0 m1 n k : ℕ) (s0 s1 : S) → taken ≡ map_taken demo'
      → Progress feeding workers arena demo'.reading a (ahead demo'.pending l) t t g e → demo'.stop ≡ None → m1 ≡ m0 → ReadsAsNeeded last ended sure a (ahead demo'.pending l) s0 s1 demo'.pending e
      → Runs feeding workers taken a (ahead taken.pending l) t t g e m0 m1 n n k k × ReadsAsNeeded last ended sure a (ahead taken.pending l) s0 s1 taken.pending e
  runs_first feeding workers demo' taken arena a l t g e m0 m1 n k s0 s1 is progress no_stop same unread =
      let P : DemoReaderView → Type 0 = λ d. Runs feeding workers d a (ahead d.pending l) t t g e m0 m1 n n k k × ReadsAsNeeded last ended sure a (ahead d.pending l) s0 s1 d.pending e in
      subst P (sym is) (record { arena = arena; full = demo'.reading; given = refl; progress = progress; no_stop = no_stop; read_same = same; write_same = refl; roomy = omega arith }, unread)

  -- the recording was refused before it gave an event
  pub first_refusal : (s0 s1 : S) (demo : DemoReaderView) (pending : List ℕ) (d : DemoStop) (a l : Option (List ℕ)) → demo ≡ fresh_reader
      → (IsOpen demo → reads_of.OnRefused d (λ why. Refuses demo.reading (ahead demo.pending a) (ahead pending l) why.line
      (HasNotReadAhead s0 s1 (last s1) demo.pending pending × (ended s1 ≡ ended s0)) (ended s1 ≡ true)))
      → OnRefused (stop_of d) (λ _. ReadsToRefusal s0 s1 (last s1) (ended s1 ≡ ended s0) (ended s1 ≡ true) a l)
  first_refusal s0 s1 demo pending d a l is h =
      let P : DemoReaderView → Type 0 = λ x. IsOpen x → reads_of.OnRefused d (λ why. Refuses x.reading (ahead x.pending a) (ahead pending l) why.line
      (HasNotReadAhead s0 s1 (last s1) x.pending pending × (ended s1 ≡ ended s0)) (ended s1 ≡ true)) in
      let Q : Option (List ℕ) → LineRefusal → Type 0 = λ o why. Refuses start o (ahead pending l) why.line (HasNotReadAhead s0 s1 (last s1) [] pending × (ended s1 ≡ ended s0)) (ended s1 ≡ true) in
      refused_of d (Q (ahead [] a)) (λ _. ReadsToRefusal s0 s1 (last s1) (ended s1 ≡ ended s0) (ended s1 ≡ true) a l)
      (λ why refuses. first_of_all why.line (let R : Option (List ℕ) → Type 0 = λ o. Q o why in subst R (prepend_known-nil a) refuses))
      (subst P is h fresh_is_open)
    where
      first_of_all : (n : ℕ) → Refuses start a (ahead pending l) n (HasNotReadAhead s0 s1 (last s1) [] pending × (ended s1 ≡ ended s0)) (ended s1 ≡ true)
          → ReadsToRefusal s0 s1 (last s1) (ended s1 ≡ ended s0) (ended s1 ≡ true) a l
      first_of_all n refuses = record {
        lines = refuses.lines;
        refused = refuses.last;
        buffered = pending;
        each = refuses.each;
        consumed = refuses.consumed;
        going = refuses.going;
        why = refuses.refused;
      }
