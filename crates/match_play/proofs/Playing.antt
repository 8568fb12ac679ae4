-- How a match goes on: the frames that were run, and those that are left.
use Rattle.std.proofs.Common.{◌≡◌, ℕ, zero, suc, ◌+◌, ◌-◌, ◌*◌, ◌==◌, ◌<◌, ◌≤◌, Bool, true, false, if◌then◌else◌, List, [], ◌∷◌, ◌++◌, length, map as map_list, Option, Some, None, IfSome, refl, sym, ap, ◌∙◌, subst, arith, length-append}
use Rattle.std.specs.Prelude.{sum_by}
use Rattle.std.specs.List.{range_with_len}
use Rattle.std.proofs.lemmas.List.{length_push, length-map, map-append}
use Rattle.std.proofs.lemmas.List.FromFn.{length-map-range_with_len, length-range_with_len, map-range_with_len_more}
use Rattle.std.proofs.lemmas.List.Sums.{sum_by_push}
use Rattle.entity_recs.specs.declared.effect.Entry.{Entry}
use Rattle.arena_map.specs.Maps.{MapView}
use Rattle.packet_read.specs.declared.arrival.Arrival.{Arrival}
use Rattle.client_ports.specs.States.{State}
use Rattle.client_ports.specs.Receiving.{Receiving}
use Rattle.move_journal.specs.Logs.{JournalView}
use Rattle.move_journal.specs.Merges.{IsInOrder}
use Rattle.plain_server.specs.RecordsById.{opening}
use Rattle.plain_server.specs.Frames.{received_in, state_after, state_played, IsRightAfter, AreRight, AreInOrder}
use Rattle.frame_phases.specs.Servers.{ServerView, server_view, server_after, new_server}
use Rattle.frame_phases.specs.Scores.{score_in}
use Rattle.out_text.specs.Collecting.{closed_frames}
use Rattle.out_text.proofs.Runs.{state_played-push, right-push, in_order-push}
use Rattle.demo_make.specs.GeneratedMap.{generated_map}
use Rattle.demo_make.specs.GeneratedFrames.{join_from, move_from, moves_in, arrivals_in, generated_frames, joins_in as frame_joins, ports}
use Rattle.demo_make.specs.Words.{word_at}
use Rattle.match_play.specs.declared.totals.Totals.{Totals}
use Rattle.match_play.specs.Totals.{no_totals, totals_with, receptions, joins_in, refused_in, items_in}
use Rattle.match_play.specs.Matches.{AreRightSoFar, AreInOrderSoFar, match_totals, entries_of}
use Rattle.frame_phases.specs.FramesRun.{RunsFrame}
use Rattle.playback.specs.Playbacks.{Closes, MayClose, entries_if}
use Rattle.match_play.specs.Games.{GameView, journals_after, totals_with_frame, totals_after}

-- ---- one frame more

pub receptions-push : (m : MapView) (frame : ℕ) (s : State) (frames : List (List Arrival)) (arrivals : List Arrival) (js : List (List Entry)) (j : List Entry) → length js ≡ length frames
    → receptions m frame s (frames ++ arrivals ∷ []) (js ++ j ∷ [])
    ≡ receptions m frame s frames js ++ received_in m (frame + length frames) (state_played m frame s frames js) arrivals ∷ []
receptions-push m frame s [] arrivals [] j same =
    let e : frame ≡ frame + 0 = omega arith in ap (λ (n : ℕ). received_in m n s arrivals ∷ []) e
receptions-push m frame s [] arrivals (k ∷ js) j same = cc
receptions-push m frame s (x ∷ frames) arrivals [] j same = cc
receptions-push m frame s (x ∷ frames) arrivals (k ∷ js) j same =
    let r = received_in m frame s x in
    let next = state_after m r k in
    let rest : length js ≡ length frames = cc in
    let e : frame + 1 + length frames ≡ frame + suc (length frames) = omega arith in
    ap (λ (rs : List Receiving). r ∷ rs)
    (receptions-push m (frame + 1) next frames arrivals js j rest
    ∙ ap (λ (n : ℕ). receptions m (frame + 1) next frames js ++ received_in m n (state_played m (frame + 1) next frames js) arrivals ∷ []) e)

module _ (seed players : ℕ) where
  -- the frames that were run, and the state after them
  abbrev pub frames_run : List (List Entry) → List (List Arrival)
  frames_run js = generated_frames seed players (length js)

  abbrev pub state_now : List (List Entry) → State
  state_now js = state_played generated_map 0 (opening generated_map) (frames_run js) js

  -- what the packets of the next frame come to
  abbrev pub received_next : List (List Entry) → Receiving
  received_next js = received_in generated_map (length js) (state_now js) (arrivals_in seed players (length js))

  frames-count : (js : List (List Entry)) → length js ≡ length (frames_run js)
  frames-count js = sym (length-map-range_with_len (arrivals_in seed players) 0 (length js))

  frames-more : (js : List (List Entry)) (j : List Entry) → frames_run (js ++ j ∷ []) ≡ frames_run js ++ arrivals_in seed players (length js) ∷ []
  frames-more js j =
      let from : 0 + length js ≡ length js = omega arith in
      ap (generated_frames seed players) (length_push js j) ∙ map-range_with_len_more (arrivals_in seed players) 0 (length js) (length js) from

  number-is : (js : List (List Entry)) → 0 + length (frames_run js) ≡ length js
  number-is js = let e = frames-count js in omega (arith, e)

  pub right-more : (js : List (List Entry)) (j : List Entry) → AreRightSoFar seed players js → IsRightAfter generated_map (received_next js) j → AreRightSoFar seed players (js ++ j ∷ [])
  right-more js j right here =
      let a = arrivals_in seed players (length js) in
      let P : ℕ → Type 0 = λ n. IsRightAfter generated_map (received_in generated_map n (state_now js) a) j in
      let Q : List (List Arrival) → Type 0 = λ fs. AreRight generated_map 0 (opening generated_map) fs (js ++ j ∷ []) in
      subst Q (sym (frames-more js j)) (right-push generated_map 0 (opening generated_map) (frames_run js) a js j right (subst P (sym (number-is js)) here))

  pub order-more : (js : List (List Entry)) (j : List Entry) → AreInOrderSoFar seed players js → IsInOrder j (received_next js).lists.moves → AreInOrderSoFar seed players (js ++ j ∷ [])
  order-more js j order here =
      let a = arrivals_in seed players (length js) in
      let P : ℕ → Type 0 = λ n. IsInOrder j (received_in generated_map n (state_now js) a).lists.moves in
      let Q : List (List Arrival) → Type 0 = λ fs. AreInOrder generated_map 0 (opening generated_map) fs (js ++ j ∷ []) in
      subst Q (sym (frames-more js j)) (in_order-push generated_map 0 (opening generated_map) (frames_run js) a js j order (subst P (sym (number-is js)) here))

  pub state-more : (js : List (List Entry)) (j : List Entry) → state_now (js ++ j ∷ []) ≡ state_after generated_map (received_next js) j
  state-more js j =
      let a = arrivals_in seed players (length js) in
      ap (λ (fs : List (List Arrival)). state_played generated_map 0 (opening generated_map) fs (js ++ j ∷ [])) (frames-more js j)
      ∙ state_played-push generated_map 0 (opening generated_map) (frames_run js) a js j (frames-count js)
      ∙ ap (λ (n : ℕ). state_after generated_map (received_in generated_map n (state_now js) a) j) (number-is js)

  receptions-more : (js : List (List Entry)) (j : List Entry) → receptions generated_map 0 (opening generated_map) (frames_run (js ++ j ∷ [])) (js ++ j ∷ [])
      ≡ receptions generated_map 0 (opening generated_map) (frames_run js) js ++ received_next js ∷ []
  receptions-more js j =
      let a = arrivals_in seed players (length js) in
      ap (λ (fs : List (List Arrival)). receptions generated_map 0 (opening generated_map) fs (js ++ j ∷ [])) (frames-more js j)
      ∙ receptions-push generated_map 0 (opening generated_map) (frames_run js) a js j (frames-count js)
      ∙ ap (λ (n : ℕ). receptions generated_map 0 (opening generated_map) (frames_run js) js ++ received_in generated_map n (state_now js) a ∷ []) (number-is js)

  pub totals-more : (js : List (List Entry)) (j : List Entry) → match_totals seed players (js ++ j ∷ [])
      ≡ totals_with (match_totals seed players js) (received_next js).lists j (score_in (state_after generated_map (received_next js) j).records)
  totals-more js j =
      let all = receptions generated_map 0 (opening generated_map) (frames_run js) js in
      let moves : List Entry → ℕ = λ (k : List Entry). length k in
      λ i. record {
        frames = length_push js j i;
        joins = (ap (sum_by joins_in) (receptions-more js j) ∙ sum_by_push joins_in all (received_next js)) i;
        moves = sum_by_push moves js j i;
        refused = (ap (sum_by refused_in) (receptions-more js j) ∙ sum_by_push refused_in all (received_next js)) i;
        items = sum_by_push items_in js j i;
        score = score_in (state-more js j i).records;
      }

  -- ---- the match

  -- so many frames are to be run: of those that were, these are the journals, and the frames that are left are these
  pub record IsUnderWay (workers frames : ℕ) (server : ServerView) (totals : Totals) (js : List (List Entry)) (left : List (List Arrival)) : Type 0 where
    pub server_is : server ≡ server_view generated_map (state_now js) (length js)
    pub right : AreRightSoFar seed players js
    pub order : workers ≡ 1 → AreInOrderSoFar seed players js
    pub totals_are : totals ≡ match_totals seed players js
    pub within : length js ≤ frames
    pub left_are : left ≡ map_list (arrivals_in seed players) (range_with_len (length js) (frames - length js))

  -- no frame was run yet
  totals-none : no_totals ≡ match_totals seed players []
  unfolding opening
  totals-none = refl

  pub under_way-start : (workers frames : ℕ) → IsUnderWay workers frames (new_server generated_map) no_totals [] (generated_frames seed players frames)
  under_way-start workers frames = record {
    server_is = refl;
    right = tt;
    order = λ one. tt;
    totals_are = totals-none;
    within = omega arith;
    left_are = let e : frames ≡ frames - 0 = omega arith in ap (λ (n : ℕ). map_list (arrivals_in seed players) (range_with_len 0 n)) e;
  }

  -- the next frame that is left
  record IsNext (frames : ℕ) (js : List (List Entry)) (a : List Arrival) (left : List (List Arrival)) : Type 0 where
    some : length js < frames
    first : a ≡ arrivals_in seed players (length js)
    rest : left ≡ map_list (arrivals_in seed players) (range_with_len (length js + 1) (frames - (length js + 1)))

  next-of : (frames k n : ℕ) (js : List (List Entry)) (a : List Arrival) (left : List (List Arrival)) → length js ≡ k → frames - k ≡ n
      → a ∷ left ≡ map_list (arrivals_in seed players) (range_with_len k n) → IsNext frames js a left
  next-of frames k zero js a left at count is = cc
  next-of frames k (suc n) js a left at count is =
      let more : frames - (length js + 1) ≡ n = omega (arith, at, count) in
      let first : a ≡ arrivals_in seed players k = cc in
      let rest : left ≡ map_list (arrivals_in seed players) (range_with_len (k + 1) n) = cc in
      record {
        some = omega (arith, at, count);
        first = first ∙ ap (arrivals_in seed players) (sym at);
        rest = rest ∙ (λ i. map_list (arrivals_in seed players) (range_with_len (sym at i + 1) (sym more i)));
      }

  next-left : (workers frames : ℕ) (server : ServerView) (totals : Totals) (js : List (List Entry)) (a : List Arrival) (left : List (List Arrival)) → IsUnderWay workers frames server totals js (a ∷ left)
      → IsNext frames js a left
  next-left workers frames server totals js a left under = next-of frames (length js) (frames - length js) js a left refl refl under.left_are

  entries-more : (before : List JournalView) (journal : JournalView) → entries_of (before ++ journal ∷ []) ≡ entries_of before ++ journal.entries ∷ []
  entries-more before journal = map-append (λ (j : JournalView). j.entries) before (journal ∷ [])

  -- a frame was run
  under_way-frame : (workers frames : ℕ) (old new : ServerView) (before : Totals) (journals : List JournalView) (journal : JournalView) (a : List Arrival) (left : List (List Arrival))
      → IsUnderWay workers frames old before (entries_of journals) (a ∷ left) → RunsFrame workers old new a journal.entries
      → IsUnderWay workers frames new (totals_with_frame before old new a journal) (entries_of (journals ++ journal ∷ [])) left
  under_way-frame workers frames old new before journals journal a left under runs =
      let js = entries_of journals in
      let j = journal.entries in
      let next = next-left workers frames old before js a left under in
      let r = received_next js in
      let here : received_in old.map old.frames old.state a ≡ r =
      (λ i. received_in (under.server_is i).map (under.server_is i).frames (under.server_is i).state (next.first i)) in
      let right = subst (λ (q : Receiving). IsRightAfter generated_map q j) here (subst (λ (m : MapView). IsRightAfter m (received_in old.map old.frames old.state a) j) (ap (λ (t : ServerView). t.map) under.server_is) runs.right) in
      let order = λ (one : workers ≡ 1). subst (λ (q : Receiving). IsInOrder j q.lists.moves) here (runs.order one) in
      let count = length_push js j in
      let state : server_after old a j ≡ server_view generated_map (state_now (js ++ j ∷ [])) (length (js ++ j ∷ [])) =
      (λ i. server_after (under.server_is i) (next.first i) j) ∙ (λ i. server_view generated_map (sym (state-more js j) i) (sym count i)) in
      let new_is = runs.next ∙ state in
      let totals : totals_with_frame before old new a journal ≡ match_totals seed players (js ++ j ∷ []) =
      (λ i. totals_with (under.totals_are i) (here i).lists j (score_in (new_is i).state.records))
      ∙ ap (λ (s : State). totals_with (match_totals seed players js) r.lists j (score_in s.records)) (state-more js j)
      ∙ sym (totals-more js j) in
      let P : List (List Entry) → Type 0 = λ ks. IsUnderWay workers frames new (totals_with_frame before old new a journal) ks left in
      subst P (sym (entries-more journals journal))
      (record {
        server_is = new_is;
        right = right-more js j under.right right;
        order = λ one. order-more js j (under.order one) (order one);
        totals_are = totals;
        within = omega (arith, count, next.some);
        left_are = next.rest ∙ ap (λ (n : ℕ). map_list (arrivals_in seed players) (range_with_len n (frames - n))) (sym count);
      })

  -- the frame that was open was run, where one was
  pub under_way-closed : (workers frames : ℕ) (old new : ServerView) (before : Totals) (journals : List JournalView) (o : Option (List Arrival)) (closed : Option JournalView) (left : List (List Arrival))
      → IsUnderWay workers frames old before (entries_of journals) (closed_frames o ++ left) → Closes workers old new o (entries_if closed)
      → IsUnderWay workers frames new (totals_after before old new o closed) (entries_of (journals_after journals closed)) left
  under_way-closed workers frames old new before journals None None left under same =
      subst (λ (t : ServerView). IsUnderWay workers frames t before (entries_of journals) left) (sym same) under
  under_way-closed workers frames old new before journals None (Some journal) left under never = absurd never
  under_way-closed workers frames old new before journals (Some a) None left under never = absurd never
  under_way-closed workers frames old new before journals (Some a) (Some journal) left under runs = under_way-frame workers frames old new before journals journal a left under runs

  arrivals-few : (frame : ℕ) → players ≤ 64 → length (arrivals_in seed players frame) ≤ 512
  arrivals-few frame few =
      omega (arith, few, length-append (frame_joins players frame) (moves_in seed players frame), joins_few (frame == 0), moves_count)
    where
      moves_count : length (moves_in seed players frame) ≡ players
      moves_count = length-map (ports players) (λ (port : ℕ). move_from (frame + 1) port (word_at seed (frame * players + (port - 1)))) ∙ length-range_with_len 1 players

      joins_few : (b : Bool) → length (if b then map_list join_from (ports players) else []) ≤ players
      joins_few true = let e = length-map (ports players) join_from ∙ length-range_with_len 1 players in omega (arith, e)
      joins_few false = omega arith

  -- a frame that is open may be closed
  pub may_close : (workers frames : ℕ) (g : GameView) (o : Option (List Arrival)) (left : List (List Arrival)) → g.course.opened ≡ o → players ≤ 64 → frames ≤ 100000
      → IsUnderWay workers frames g.course.server g.totals (entries_of g.journals) (closed_frames o ++ left) → MayClose g.course
  may_close workers frames g None left is few_players few_frames under = record {
    few = subst (λ (o : Option (List Arrival)). IfSome o (λ arrivals. length arrivals ≤ 512)) (sym is) tt;
    frames = subst (λ (o : Option (List Arrival)). IfSome o (λ _. g.course.server.frames < 100000)) (sym is) tt;
  }
  may_close workers frames g (Some a) left is few_players few_frames under =
      let next = next-left workers frames g.course.server g.totals (entries_of g.journals) a left under in
      let number = ap (λ (t : ServerView). t.frames) under.server_is in
      let short : length a ≤ 512 = subst (λ (xs : List Arrival). length xs ≤ 512) (sym next.first) (arrivals-few (length (entries_of g.journals)) few_players) in
      let early : g.course.server.frames < 100000 = omega (arith, number, next.some, few_frames) in
      record {
        few = subst (λ (o : Option (List Arrival)). IfSome o (λ arrivals. length arrivals ≤ 512)) (sym is) short;
        frames = subst (λ (o : Option (List Arrival)). IfSome o (λ _. g.course.server.frames < 100000)) (sym is) early;
      }
