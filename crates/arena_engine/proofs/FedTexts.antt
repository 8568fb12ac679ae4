-- What is right to write of frames that were run, whichever way their packets reached the server.
use Rattle.std.proofs.Common.{◌≡◌, ℕ, ◌+◌, ◌<◌, ◌≤◌, List, [], ◌∷◌, ◌++◌, length, take, Option, Some, None, option_map, IfSome, inl, inr, refl, sym, ap, ◌∙◌, subst, arith, length-append}
use Rattle.entity_recs.specs.declared.effect.Entry.{Entry}
use Rattle.arena_map.specs.Maps.{MapView}
use Rattle.packet_read.specs.declared.arrival.Arrival.{Arrival}
use Rattle.packet_read.specs.Orders.{in_order, AreEachOnce}
use Rattle.plain_server.specs.RecordsById.{opening}
use Rattle.plain_server.specs.Frames.{received_in, state_played}
use Rattle.demo_lines.specs.declared.line_refusal.LineRefusal.{LineRefusal}
use Rattle.demo_lines.specs.Bytes.{events, fault}
use Rattle.out_text.specs.OutLines.{OutLine, EndLine, text_of}
use Rattle.out_text.specs.FrameLines.{lines_with, run_lines}
use Rattle.out_text.specs.Collecting.{frames_of_events, frames_of}
use Rattle.out_text.specs.Journals.{dids}
use Rattle.out_text.specs.Output.{last_of, HasLast, IsFront, IsAllFrames, IsRefused, IsSomeFrames, IsOutput, IsCut}
use Rattle.out_text.specs.Feeds.{AreFeedsOf, RiseByParity, IsLastOrder, last_fed, with_froms, HasLastFed, IsFedFront, IsFedFrames, IsFedRefused, IsFedSome, IsFedOutput, IsFedCut}
use Rattle.out_text.specs.Feeds as feeds_of
use Rattle.out_text.proofs.Growing.{GoesOnWith}
use Rattle.out_text.proofs.Outputs.{nothing_reported}
use Rattle.out_text.proofs.Runs.{run_lines-append, run_lines-push, text_of-append}
use Rattle.out_text.proofs.Fronts.{AreRun, IsPlayed, lines_of, text_with, whole_text, no_front, last_of-push, front_has_last, out_has_last, out_text-is, right_in, in_order_in, is_front, is_all_frames, is_output, frame_cut, end_cut, last_cut}
use Rattle.out_text.proofs.FedRuns.{length-feeds, feeds-push, feeds-append, feeds-own, fed_lines-append, fed_lines-push}
use Rattle.out_text.proofs.FedFronts.{fed_lines_of, fed_text_with, no_fed_front, no_fed_last, fed_front_has_last, fed_out_has_last, fed_output-is, fed_right, fed_in_turn, is_fed_front, is_fed_frames, is_fed_output, fed_frame_cut, fed_end_cut, fed_last_cut}
use Rattle.arena_engine.specs.declared.feeding.Feeding.{Feeding}
use Rattle.arena_engine.specs.declared.feeding.Feeding.TheVariants.{Recorded, Threaded}
use Rattle.arena_engine.specs.Feedings.{Last, no_last, AreFed, IsLastOf, IsOrderOf, arranged, with_packets, fed_lines, fed_text}
use Rattle.arena_engine.specs.Texts.{Texts, texts_of}

-- ---- no frame

pub frames_of-none : (bytes : List ℕ) → events bytes ≡ [] → frames_of bytes ≡ []
frames_of-none bytes none = ap (λ es. (frames_of_events es).closed) none

-- it is right to write nothing before the first frame
pub record HoldAtFirst (texts : Texts) : Type 0 where
  pub some_frames : (bytes : List ℕ) → texts.some_frames bytes no_last []
  pub all_frames : (bytes : List ℕ) → events bytes ≡ [] → texts.all_frames bytes no_last []
  pub refused : (bytes : List ℕ) (why : LineRefusal) → fault bytes ≡ Some why → events bytes ≡ [] → texts.refused bytes why no_last []

-- no journal is read off no text
none_in_no_text : None ≡ last_of (dids [])
none_in_no_text = sym (ap last_of nothing_reported)

-- it is right to write nothing before the first frame
pub hold_at_first : (feeding : Feeding) (workers : ℕ) → HoldAtFirst (texts_of feeding workers)
hold_at_first Recorded workers = record {
  some_frames = λ bytes. record { holds = record { k = 0; front = no_front workers bytes }; last_is = none_in_no_text };
  all_frames = λ bytes none. record { holds = all_of_none bytes none; last_is = none_in_no_text };
  refused = λ bytes why faulty none. record { holds = record { faulty = faulty; frames = all_of_none bytes none }; last_is = none_in_no_text };
}
  where
    all_of_none : (bytes : List ℕ) → events bytes ≡ [] → IsAllFrames workers bytes []
    all_of_none bytes none = let P : ℕ → Type 0 = λ k. IsFront workers bytes k [] in subst P (ap length (sym (frames_of-none bytes none))) (no_front workers bytes)
hold_at_first Threaded workers = record {
  some_frames = λ bytes. no_fed_last (IsFedSome workers bytes) bytes None None refl refl (record { k = 0; front = no_fed_front workers bytes });
  all_frames = λ bytes none. no_fed_last (IsFedFrames workers bytes) bytes None None refl refl (all_of_none bytes none);
  refused = λ bytes why faulty none. no_fed_last (IsFedRefused workers bytes why) bytes None None refl refl (record { faulty = faulty; frames = all_of_none bytes none });
}
  where
    all_of_none : (bytes : List ℕ) → events bytes ≡ [] → IsFedFrames workers bytes []
    all_of_none bytes none = let P : ℕ → Type 0 = λ k. IsFedFront workers bytes k [] in subst P (ap length (sym (frames_of-none bytes none))) (no_fed_front workers bytes)

pub none_are_fed : (feeding : Feeding) → AreFed feeding [] []
none_are_fed Recorded = refl
none_are_fed Threaded = tt

pub none_is_last : (feeding : Feeding) → IsLastOf feeding no_last [] [] []
none_is_last Recorded = record { order = refl; journal = refl }
none_is_last Threaded = record { order = record { none = λ _. refl; places = tt; rising = tt; packets = refl }; journal = refl }

pub fed_text-none : (feeding : Feeding) (arena : MapView) → fed_text feeding arena [] [] ≡ []
fed_text-none Recorded arena = refl
fed_text-none Threaded arena = refl

-- ---- one frame more

pub length-fed : (feeding : Feeding) (closed feeds : List (List Arrival)) → AreFed feeding closed feeds → length feeds ≡ length closed
length-fed Recorded closed feeds fed = ap length fed
length-fed Threaded closed feeds fed = length-feeds closed feeds fed

-- where packets are as the recording has them, there is no order of arrival
abbrev unordered : (sent : List Arrival) (order : Option (List ℕ)) → order ≡ None → arranged order sent ≡ sent
unordered sent order none = ap (λ (o : Option (List ℕ)). arranged o sent) none

pub fed-push : (feeding : Feeding) (closed feeds : List (List Arrival)) (sent : List Arrival) (order : Option (List ℕ)) → AreFed feeding closed feeds → IsOrderOf feeding sent order
    → AreFed feeding (closed ++ sent ∷ []) (feeds ++ arranged order sent ∷ [])
fed-push Recorded closed feeds sent order fed is = λ i. fed i ++ unordered sent order is i ∷ []
fed-push Threaded closed feeds sent None fed never = absurd never
fed-push Threaded closed feeds sent (Some order) fed is = feeds-push closed feeds sent (in_order order sent) fed is.feed

-- and with frames that aren't fed yet, in their own order
pub fed-rest : (feeding : Feeding) (closed feeds rest : List (List Arrival)) → AreFed feeding closed feeds → AreFed feeding (closed ++ rest) (feeds ++ rest)
fed-rest Recorded closed feeds rest fed = ap (λ (fs : List (List Arrival)). fs ++ rest) fed
fed-rest Threaded closed feeds rest fed = feeds-append closed feeds rest rest fed (feeds-own rest)

-- the packets of the last frame, with one more
last_fed-push : (feeds : List (List Arrival)) (fed : List Arrival) → last_fed (feeds ++ fed ∷ []) ≡ Some fed
last_fed-push [] fed = refl
last_fed-push (f ∷ []) fed = refl
last_fed-push (f ∷ g ∷ feeds) fed = last_fed-push (g ∷ feeds) fed

-- the order of the last frame, with one more
last_order-push : (closed feeds : List (List Arrival)) (arrivals : List Arrival) (order : List ℕ) → AreEachOnce (length arrivals) order → RiseByParity arrivals order → IsLastOrder (Some order) (closed ++ arrivals ∷ []) (feeds ++ in_order order arrivals ∷ [])
last_order-push closed feeds arrivals order each rising = record {
  none = λ is. absurd (longer feeds is);
  places = subst (λ (o : Option (List Arrival)). IfSome o (λ sent. AreEachOnce (length sent) order)) (sym (last_fed-push closed arrivals)) each;
  rising = subst (λ (o : Option (List Arrival)). IfSome o (λ sent. RiseByParity sent order)) (sym (last_fed-push closed arrivals)) rising;
  packets = ap (option_map (in_order order)) (last_fed-push closed arrivals) ∙ sym (last_fed-push feeds (in_order order arrivals));
}
  where
    longer : (fs : List (List Arrival)) → fs ++ in_order order arrivals ∷ [] ≡ [] → ⊥
    longer [] is = cc
    longer (f ∷ fs) is = cc

pub last-push : (feeding : Feeding) (closed feeds : List (List Arrival)) (js : List (List Entry)) (sent : List Arrival) (order : Option (List ℕ)) (j : List Entry) → IsOrderOf feeding sent order
    → IsLastOf feeding (record { order = order; journal = Some j }) (closed ++ sent ∷ []) (feeds ++ arranged order sent ∷ []) (js ++ j ∷ [])
last-push Recorded closed feeds js sent order j is = record { order = is; journal = sym (last_of-push js j) }
last-push Threaded closed feeds js sent None j never = absurd never
last-push Threaded closed feeds js sent (Some order) j is = record { order = last_order-push closed feeds sent order is.places is.rising; journal = sym (last_of-push js j) }

-- the lines of one frame more
abbrev pub lines_of_next : MapView → List (List Arrival) → List (List Entry) → List Arrival → List Entry → List OutLine
lines_of_next arena feeds js fed j = lines_with arena (0 + length feeds) (received_in arena (0 + length feeds) (state_played arena 0 (opening arena) feeds js) fed) j

pub lines-push : (feeding : Feeding) (arena : MapView) (feeds : List (List Arrival)) (js : List (List Entry)) (sent : List Arrival) (order : Option (List ℕ)) (j : List Entry) → IsOrderOf feeding sent order → length js ≡ length feeds
    → fed_lines feeding arena (feeds ++ arranged order sent ∷ []) (js ++ j ∷ []) ≡ fed_lines feeding arena feeds js ++ with_packets order (arranged order sent) (lines_of_next arena feeds js (arranged order sent) j)
lines-push Recorded arena feeds js sent order j is same =
    let P : Option (List ℕ) → Type 0 = λ o. lines_of arena (feeds ++ arranged o sent ∷ []) (js ++ j ∷ []) ≡ lines_of arena feeds js ++ with_packets o (arranged o sent) (lines_of_next arena feeds js (arranged o sent) j) in
    subst P (sym is) (run_lines-push arena 0 (opening arena) feeds sent js j same)
lines-push Threaded arena feeds js sent None j never same = absurd never
lines-push Threaded arena feeds js sent (Some order) j is same = fed_lines-push arena 0 (opening arena) feeds (in_order order sent) js j same

-- the text of more frames is no shorter
pub fed_text-longer : (feeding : Feeding) (arena : MapView) (feeds rest : List (List Arrival)) (js ks : List (List Entry)) → length js ≡ length feeds
    → length (fed_text feeding arena feeds js) ≤ length (fed_text feeding arena (feeds ++ rest) (js ++ ks))
fed_text-longer Recorded arena feeds rest js ks same =
    let more = run_lines arena (0 + length feeds) (state_played arena 0 (opening arena) feeds js) rest ks in
    omega (
      arith,
      ap (λ ls. length (text_of ls)) (run_lines-append arena 0 (opening arena) feeds rest js ks same),
      ap length (text_of-append (lines_of arena feeds js) more),
      length-append (text_of (lines_of arena feeds js)) (text_of more),
    )
fed_text-longer Threaded arena feeds rest js ks same =
    let more = feeds_of.fed_lines arena (0 + length feeds) (state_played arena 0 (opening arena) feeds js) rest ks in
    omega (
      arith,
      ap (λ ls. length (text_of ls)) (fed_lines-append arena 0 (opening arena) feeds rest js ks same),
      ap length (text_of-append (fed_lines_of arena feeds js) more),
      length-append (text_of (fed_lines_of arena feeds js)) (text_of more),
    )

-- ---- the texts of frames that were run

-- these are the first frames of a recording; their packets arrived so, and they were run with these journals
pub record HaveRun (feeding : Feeding) (workers : ℕ) (bytes : List ℕ) (arena : MapView) (closed feeds : List (List Arrival)) (js : List (List Entry)) : Type 0 where
  pub played : IsPlayed bytes arena
  pub on : GoesOnWith closed (frames_of bytes)
  pub fed : AreFed feeding closed feeds
  pub run : AreRun workers arena feeds js

-- where packets are as the recording has them, the frames are its own
own_run : (workers : ℕ) (arena : MapView) (closed feeds : List (List Arrival)) (js : List (List Entry)) → feeds ≡ closed → AreRun workers arena feeds js → AreRun workers arena closed js
own_run workers arena closed feeds js fed run = subst (λ (fs : List (List Arrival)). AreRun workers arena fs js) fed run

pub some_right : (feeding : Feeding) (workers : ℕ) (bytes : List ℕ) (arena : MapView) (closed feeds : List (List Arrival)) (js : List (List Entry)) (last : Last) → HaveRun feeding workers bytes arena closed feeds js
    → IsLastOf feeding last closed feeds js → (texts_of feeding workers).some_frames bytes last (fed_text feeding arena feeds js)
some_right Recorded workers bytes arena closed feeds js last r is =
    let P : List (List Arrival) → Type 0 = λ fs. HasLast (IsSomeFrames workers bytes) last.journal (text_with arena fs js) in
    let run = own_run workers arena closed feeds js r.fed r.run in
    subst P (sym r.fed) (front_has_last workers bytes arena r.played (IsSomeFrames workers bytes) closed js last.journal r.on run is.journal (record { k = length closed; front = is_front workers bytes arena r.played closed js r.on run }))
some_right Threaded workers bytes arena closed feeds js last r is =
    fed_front_has_last workers bytes arena r.played closed feeds js r.on r.fed r.run (IsFedSome workers bytes) last.order last.journal is.order is.journal (record {
      k = length closed;
      front = is_fed_front workers bytes arena r.played closed feeds js r.on r.fed r.run;
    })

pub all_right : (feeding : Feeding) (workers : ℕ) (bytes : List ℕ) (arena : MapView) (closed feeds : List (List Arrival)) (js : List (List Entry)) (last : Last) → HaveRun feeding workers bytes arena closed feeds js
    → IsLastOf feeding last closed feeds js → frames_of bytes ≡ closed → (texts_of feeding workers).all_frames bytes last (fed_text feeding arena feeds js)
all_right Recorded workers bytes arena closed feeds js last r is all =
    let P : List (List Arrival) → Type 0 = λ fs. HasLast (IsAllFrames workers bytes) last.journal (text_with arena fs js) in
    let run = own_run workers arena closed feeds js r.fed r.run in
    subst P (sym r.fed) (front_has_last workers bytes arena r.played (IsAllFrames workers bytes) closed js last.journal r.on run is.journal (is_all_frames workers bytes arena r.played closed js all run))
all_right Threaded workers bytes arena closed feeds js last r is all =
    fed_front_has_last workers bytes arena r.played closed feeds js r.on r.fed r.run (IsFedFrames workers bytes) last.order last.journal is.order is.journal (is_fed_frames workers bytes arena r.played closed feeds js r.on r.fed r.run all)

pub refused_right : (feeding : Feeding) (workers : ℕ) (bytes : List ℕ) (arena : MapView) (closed feeds : List (List Arrival)) (js : List (List Entry)) (last : Last) (why : LineRefusal) → HaveRun feeding workers bytes arena closed feeds js
    → IsLastOf feeding last closed feeds js → frames_of bytes ≡ closed → fault bytes ≡ Some why → (texts_of feeding workers).refused bytes why last (fed_text feeding arena feeds js)
refused_right Recorded workers bytes arena closed feeds js last why r is all faulty =
    let P : List (List Arrival) → Type 0 = λ fs. HasLast (IsRefused workers bytes why) last.journal (text_with arena fs js) in
    let run = own_run workers arena closed feeds js r.fed r.run in
    subst P (sym r.fed) (front_has_last workers bytes arena r.played (IsRefused workers bytes why) closed js last.journal r.on run is.journal (record { faulty = faulty; frames = is_all_frames workers bytes arena r.played closed js all run }))
refused_right Threaded workers bytes arena closed feeds js last why r is all faulty =
    fed_front_has_last workers bytes arena r.played closed feeds js r.on r.fed r.run (IsFedRefused workers bytes why) last.order last.journal is.order is.journal (record {
      faulty = faulty;
      frames = is_fed_frames workers bytes arena r.played closed feeds js r.on r.fed r.run all;
    })

-- the text of frames, and the last line
abbrev pub fed_whole_text : Feeding → MapView → List (List Arrival) → List (List Entry) → List ℕ
fed_whole_text feeding arena feeds js = text_of (fed_lines feeding arena feeds js ++ EndLine (length feeds) ∷ [])

pub whole_right : (feeding : Feeding) (workers : ℕ) (bytes : List ℕ) (arena : MapView) (closed feeds : List (List Arrival)) (js : List (List Entry)) (last : Last) → HaveRun feeding workers bytes arena closed feeds js
    → IsLastOf feeding last closed feeds js → frames_of bytes ≡ closed → fault bytes ≡ None → (texts_of feeding workers).whole bytes last (fed_whole_text feeding arena feeds js)
whole_right Recorded workers bytes arena closed feeds js last r is all accepted =
    let P : List (List Arrival) → Type 0 = λ fs. HasLast (IsOutput workers bytes) last.journal (whole_text arena fs js) in
    let run = own_run workers arena closed feeds js r.fed r.run in
    subst P (sym r.fed) (out_has_last workers bytes arena r.played (IsOutput workers bytes) closed js last.journal all run is.journal (is_output workers bytes arena r.played closed js accepted all run))
whole_right Threaded workers bytes arena closed feeds js last r is all accepted =
    fed_out_has_last workers bytes arena r.played closed feeds js r.on r.fed r.run all (IsFedOutput workers bytes) last.order last.journal is.order is.journal (is_fed_output workers bytes arena r.played closed feeds js r.on r.fed r.run all accepted)

-- ---- a write that fails

-- a write failed in the text of one frame more
pub frame_cut_right : (feeding : Feeding) (workers : ℕ) (bytes : List ℕ) (arena : MapView) (closed feeds : List (List Arrival)) (js : List (List Entry)) (sent : List Arrival) (order : Option (List ℕ)) (j : List Entry) (piece : List OutLine) (count : ℕ)
    → IsOrderOf feeding sent order → AreFed feeding closed feeds → length js ≡ length feeds → HaveRun feeding workers bytes arena (closed ++ sent ∷ []) (feeds ++ arranged order sent ∷ []) (js ++ j ∷ [])
    → piece ≡ with_packets order (arranged order sent) (lines_of_next arena feeds js (arranged order sent) j)
    → count < length (text_of piece) → (texts_of feeding workers).cut bytes (record { order = order; journal = Some j }) (fed_text feeding arena feeds js ++ take count (text_of piece))
frame_cut_right Recorded workers bytes arena closed feeds js sent order j piece count none fed same r is short =
    let P : List (List Arrival) → Type 0 = λ fs. length js ≡ length fs → AreRun workers arena (fs ++ sent ∷ []) (js ++ j ∷ []) → piece ≡ lines_of_next arena fs js sent j
    → IsCut workers bytes (last_of (js ++ j ∷ [])) (text_with arena fs js ++ take count (text_of piece)) in
    let Q : Option (List ℕ) → Type 0 = λ o. AreRun workers arena (feeds ++ arranged o sent ∷ []) (js ++ j ∷ []) in
    let R : Option (List ℕ) → Type 0 = λ o. piece ≡ with_packets o (arranged o sent) (lines_of_next arena feeds js (arranged o sent) j) in
    let L : Option (List Entry) → Type 0 = λ l. IsCut workers bytes l (text_with arena feeds js ++ take count (text_of piece)) in
    subst L (last_of-push js j) (subst P (sym fed) (λ count_is run pieces. inl (frame_cut workers bytes arena r.played closed sent js j piece count count_is r.on run pieces short)) same (subst Q none r.run) (subst R none is))
frame_cut_right Threaded workers bytes arena closed feeds js sent None j piece count never fed same r is short = absurd never
frame_cut_right Threaded workers bytes arena closed feeds js sent (Some order) j piece count sends fed same r is short =
    let L : Option (List Entry) → Type 0 = λ l. IsFedCut workers bytes (Some order) l (fed_text_with arena feeds js ++ take count (text_of piece)) in
    subst L (last_of-push js j)
    (inl (fed_frame_cut workers bytes arena r.played closed feeds sent (in_order order sent) js j (Some order) piece count same r.on r.fed r.run (last_order-push closed feeds sent order sends.places sends.rising) is short))

-- a write failed in the last line, where no frame was open
pub end_cut_right : (feeding : Feeding) (workers : ℕ) (bytes : List ℕ) (arena : MapView) (closed feeds : List (List Arrival)) (js : List (List Entry)) (last : Last) (count : ℕ) → HaveRun feeding workers bytes arena closed feeds js
    → IsLastOf feeding last closed feeds js → frames_of bytes ≡ closed → fault bytes ≡ None
    → count < length (text_of (EndLine (length feeds) ∷ [])) → (texts_of feeding workers).cut bytes last (fed_text feeding arena feeds js ++ take count (text_of (EndLine (length feeds) ∷ [])))
end_cut_right Recorded workers bytes arena closed feeds js last count r is all accepted short =
    let P : List (List Arrival) → Type 0 = λ fs. count < length (text_of (EndLine (length fs) ∷ [])) → IsCut workers bytes (last_of js) (text_with arena fs js ++ take count (text_of (EndLine (length fs) ∷ []))) in
    let L : Option (List Entry) → Type 0 = λ l. IsCut workers bytes l (text_with arena feeds js ++ take count (text_of (EndLine (length feeds) ∷ []))) in
    subst L (sym is.journal) (subst P (sym r.fed) (λ fits. inr (end_cut workers bytes arena r.played closed js count accepted all (own_run workers arena closed feeds js r.fed r.run) fits)) short)
end_cut_right Threaded workers bytes arena closed feeds js last count r is all accepted short =
    let L : Option (List Entry) → Type 0 = λ l. IsFedCut workers bytes last.order l (fed_text_with arena feeds js ++ take count (text_of (EndLine (length feeds) ∷ []))) in
    subst L (sym is.journal) (inr (fed_end_cut workers bytes arena r.played closed feeds js last.order count accepted all r.fed r.run is.order short))

-- a write failed in the text of the last frame, which was open, and the last line
pub last_cut_right : (feeding : Feeding) (workers : ℕ) (bytes : List ℕ) (arena : MapView) (closed feeds : List (List Arrival)) (js : List (List Entry)) (sent : List Arrival) (order : Option (List ℕ)) (j : List Entry) (piece : List OutLine) (count : ℕ)
    → IsOrderOf feeding sent order → AreFed feeding closed feeds → length js ≡ length feeds → HaveRun feeding workers bytes arena (closed ++ sent ∷ []) (feeds ++ arranged order sent ∷ []) (js ++ j ∷ [])
    → frames_of bytes ≡ closed ++ sent ∷ [] → fault bytes ≡ None
    → piece ≡ with_packets order (arranged order sent) (lines_of_next arena feeds js (arranged order sent) j) ++ EndLine (length (feeds ++ arranged order sent ∷ [])) ∷ []
    → count < length (text_of piece) → (texts_of feeding workers).cut bytes (record { order = order; journal = Some j }) (fed_text feeding arena feeds js ++ take count (text_of piece))
last_cut_right Recorded workers bytes arena closed feeds js sent order j piece count none fed same r all accepted is short =
    let P : List (List Arrival) → Type 0 = λ fs. length js ≡ length fs → AreRun workers arena (fs ++ sent ∷ []) (js ++ j ∷ []) → piece ≡ lines_of_next arena fs js sent j ++ EndLine (length (fs ++ sent ∷ [])) ∷ []
    → IsCut workers bytes (last_of (js ++ j ∷ [])) (text_with arena fs js ++ take count (text_of piece)) in
    let Q : Option (List ℕ) → Type 0 = λ o. AreRun workers arena (feeds ++ arranged o sent ∷ []) (js ++ j ∷ []) in
    let R : Option (List ℕ) → Type 0 = λ o. piece ≡ with_packets o (arranged o sent) (lines_of_next arena feeds js (arranged o sent) j) ++ EndLine (length (feeds ++ arranged o sent ∷ [])) ∷ [] in
    let L : Option (List Entry) → Type 0 = λ l. IsCut workers bytes l (text_with arena feeds js ++ take count (text_of piece)) in
    subst L (last_of-push js j) (subst P (sym fed) (λ count_is run pieces. inr (last_cut workers bytes arena r.played closed sent js j piece count count_is accepted all run pieces short)) same (subst Q none r.run) (subst R none is))
last_cut_right Threaded workers bytes arena closed feeds js sent None j piece count never fed same r all accepted is short = absurd never
last_cut_right Threaded workers bytes arena closed feeds js sent (Some order) j piece count sends fed same r all accepted is short =
    let L : Option (List Entry) → Type 0 = λ l. IsFedCut workers bytes (Some order) l (fed_text_with arena feeds js ++ take count (text_of piece)) in
    subst L (last_of-push js j)
    (inr (fed_last_cut workers bytes arena r.played closed feeds sent (in_order order sent) js j (Some order) piece count same accepted all r.fed r.run (last_order-push closed feeds sent order sends.places sends.rising) is short))

-- ---- what fits

-- where there is room for every right output, the whole text fits
pub whole_fits : (feeding : Feeding) (workers : ℕ) (bytes : List ℕ) (arena : MapView) (closed feeds : List (List Arrival)) (js : List (List Entry)) (room : ℕ) → HaveRun feeding workers bytes arena closed feeds js
    → frames_of bytes ≡ closed → (texts_of feeding workers).has_room bytes room → length (fed_whole_text feeding arena feeds js) ≤ room
whole_fits Recorded workers bytes arena closed feeds js room r all roomy =
    let is = r.fed ∙ sym all in
    let run = subst (λ (fs : List (List Arrival)). AreRun workers arena fs js) is r.run in
    let fits = roomy js (right_in _ arena (frames_of bytes) js r.played.has run.right) (λ one. in_order_in _ arena (frames_of bytes) js r.played.has (run.order one)) in
    let P : List (List Arrival) → Type 0 = λ fs. length (whole_text arena fs js) ≤ room in
    subst P (sym is) (omega (arith, fits, ap length (out_text-is workers bytes arena r.played (frames_of bytes) js refl)))
whole_fits Threaded workers bytes arena closed feeds js room r all roomy =
    let there = subst (λ (fs : List (List Arrival)). AreFeedsOf fs feeds) (sym all) r.fed in
    let fits = roomy feeds js there (fed_right workers bytes arena r.played closed feeds js r.on r.fed r.run) (fed_in_turn workers bytes arena r.played closed feeds js r.on r.fed r.run) in
    omega (arith, fits, ap length (fed_output-is workers bytes arena r.played closed feeds js r.on r.fed r.run))
