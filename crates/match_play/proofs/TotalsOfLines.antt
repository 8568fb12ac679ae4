-- The totals of frames, counted over their lines.
use Rattle.std.proofs.Common.{◌≡◌, ℕ, ◌+◌, List, [], ◌∷◌, ◌++◌, length, map as map_list, Option, refl, ap, ◌∙◌, arith, length-append, append-nil}
use Rattle.std.specs.Prelude.{sum_by}
use Rattle.std.proofs.lemmas.List.Sums.{sum_by-append, sum_by-cons}
use Rattle.entity_recs.specs.declared.effect.Entry.{Entry}
use Rattle.entity_recs.specs.declared.rec.Rec.{Rec}
use Rattle.arena_map.specs.Maps.{MapView}
use Rattle.world_tree.specs.Live.{live_in}
use Rattle.packet_read.specs.declared.arrival.Arrival.{Arrival}
use Rattle.client_ports.specs.declared.received.Refused.{Refused}
use Rattle.client_ports.specs.declared.received.Joined.{Joined}
use Rattle.client_ports.specs.Lists.{Lists}
use Rattle.client_ports.specs.Receiving.{Receiving}
use Rattle.client_ports.specs.States.{State}
use Rattle.plain_server.specs.RecordsById.{opening}
use Rattle.plain_server.specs.Replies.{players_in}
use Rattle.plain_server.specs.Frames.{received_in, moved_by, state_after}
use Rattle.out_text.specs.Dids.{did_of}
use Rattle.out_text.specs.OutLines.{OutLine, FrameLine, FromLine, NoLine, JoinedLine, DidLine, ToLine, EndLine}
use Rattle.out_text.specs.FrameLines.{no_line, joined_line, did_line, to_line, to_lines, frame_lines, lines_with, run_lines}
use Rattle.out_text.specs.PacketLines as packet_lines
use Rattle.out_text.proofs.OneAnswer.{one_answer_each}
use Rattle.match_play.specs.Totals.{items_among, items_in, joins_in, refused_in, receptions}
use Rattle.match_play.specs.TotalsOfLines.{dids_in, frames_in, items_got}
use Rattle.match_play.specs.Laws.{TotalsAreOfTheOutput}

-- ---- lines after lines

dids-append : (xs ys : List OutLine) → dids_in (xs ++ ys) ≡ dids_in xs ++ dids_in ys
dids-append [] ys = refl
dids-append (FrameLine frame ∷ xs) ys = dids-append xs ys
dids-append (FromLine port bytes ∷ xs) ys = dids-append xs ys
dids-append (NoLine place why ∷ xs) ys = dids-append xs ys
dids-append (JoinedLine port slot ∷ xs) ys = dids-append xs ys
dids-append (DidLine did ∷ xs) ys = ap (λ ds. did ∷ ds) (dids-append xs ys)
dids-append (ToLine slot bytes ∷ xs) ys = dids-append xs ys
dids-append (EndLine frames ∷ xs) ys = dids-append xs ys

frames-append : (xs ys : List OutLine) → frames_in (xs ++ ys) ≡ frames_in xs ++ frames_in ys
frames-append [] ys = refl
frames-append (FrameLine frame ∷ xs) ys = ap (λ ns. frame ∷ ns) (frames-append xs ys)
frames-append (FromLine port bytes ∷ xs) ys = frames-append xs ys
frames-append (NoLine place why ∷ xs) ys = frames-append xs ys
frames-append (JoinedLine port slot ∷ xs) ys = frames-append xs ys
frames-append (DidLine did ∷ xs) ys = frames-append xs ys
frames-append (ToLine slot bytes ∷ xs) ys = frames-append xs ys
frames-append (EndLine frames ∷ xs) ys = frames-append xs ys

joins-more : (xs ys : List OutLine) → length (packet_lines.joins_in (xs ++ ys)) ≡ length (packet_lines.joins_in xs) + length (packet_lines.joins_in ys)
joins-more [] ys = omega arith
joins-more (FrameLine frame ∷ xs) ys = joins-more xs ys
joins-more (FromLine port bytes ∷ xs) ys = joins-more xs ys
joins-more (NoLine place why ∷ xs) ys = joins-more xs ys
joins-more (JoinedLine port slot ∷ xs) ys = omega (arith, joins-more xs ys)
joins-more (DidLine did ∷ xs) ys = joins-more xs ys
joins-more (ToLine slot bytes ∷ xs) ys = joins-more xs ys
joins-more (EndLine frames ∷ xs) ys = joins-more xs ys

refusals-more : (xs ys : List OutLine) → length (packet_lines.refusals_in (xs ++ ys)) ≡ length (packet_lines.refusals_in xs) + length (packet_lines.refusals_in ys)
refusals-more [] ys = omega arith
refusals-more (FrameLine frame ∷ xs) ys = refusals-more xs ys
refusals-more (FromLine port bytes ∷ xs) ys = refusals-more xs ys
refusals-more (NoLine place why ∷ xs) ys = omega (arith, refusals-more xs ys)
refusals-more (JoinedLine port slot ∷ xs) ys = refusals-more xs ys
refusals-more (DidLine did ∷ xs) ys = refusals-more xs ys
refusals-more (ToLine slot bytes ∷ xs) ys = refusals-more xs ys
refusals-more (EndLine frames ∷ xs) ys = refusals-more xs ys

-- ---- the lines of a frame

none_of_refused : (ts : List Refused) → (dids_in (map_list no_line ts) ≡ []) × (frames_in (map_list no_line ts) ≡ [])
none_of_refused [] = (refl, refl)
none_of_refused (t ∷ ts) = none_of_refused ts

none_of_joined : (js : List Joined) → (dids_in (map_list joined_line js) ≡ []) × (frames_in (map_list joined_line js) ≡ [])
none_of_joined [] = (refl, refl)
none_of_joined (j ∷ js) = none_of_joined js

none_of_shown : (frame : ℕ) (live players : List Rec)
    → (dids_in (map_list (to_line frame live) players) ≡ []) × (frames_in (map_list (to_line frame live) players) ≡ [])
none_of_shown frame live [] = (refl, refl)
none_of_shown frame live (me ∷ players) = none_of_shown frame live players

each_done : (es : List Entry) → dids_in (map_list did_line es) ≡ map_list did_of es
each_done [] = refl
each_done (e ∷ es) = ap (λ ds. did_of e ∷ ds) (each_done es)

no_frame-done : (es : List Entry) → frames_in (map_list did_line es) ≡ []
no_frame-done [] = refl
no_frame-done (e ∷ es) = no_frame-done es

only_third : {X : Type 0} → (a b c d m : List X) → a ≡ [] → b ≡ [] → c ≡ m → d ≡ [] → a ++ b ++ c ++ d ≡ m
only_third {X} a b c d m ha hb hc hd =
    ap (λ (xs : List X). xs ++ b ++ c ++ d) ha ∙ ap (λ (xs : List X). xs ++ c ++ d) hb ∙ ap (λ (xs : List X). xs ++ d) hc ∙ ap (λ (xs : List X). m ++ xs) hd ∙ append-nil m

parts : {X : Type 0} → (f : List OutLine → List X) → ((xs ys : List OutLine) → f (xs ++ ys) ≡ f xs ++ f ys) → (a b c d : List OutLine)
    → f (a ++ b ++ c ++ d) ≡ f a ++ f b ++ f c ++ f d
parts {X} f append a b c d =
    append (a ++ b ++ c) d ∙ ap (λ (xs : List X). xs ++ f d) (append (a ++ b) c ∙ ap (λ (xs : List X). xs ++ f c) (append a b))

dids_of_frame : (frame : ℕ) (lists : Lists) (journal : List Entry) (records : List (Option Rec)) → dids_in (frame_lines frame lists journal records) ≡ map_list did_of journal
dids_of_frame frame lists journal records =
    let shown = none_of_shown frame (live_in records) (players_in records) in
    parts dids_in dids-append (map_list no_line lists.refused) (map_list joined_line lists.joined) (map_list did_line journal) (to_lines frame records)
    ∙ only_third _ _ _ _ (map_list did_of journal) (none_of_refused lists.refused).0 (none_of_joined lists.joined).0 (each_done journal) shown.0

frames_of_frame : (frame : ℕ) (lists : Lists) (journal : List Entry) (records : List (Option Rec)) → frames_in (frame_lines frame lists journal records) ≡ frame ∷ []
frames_of_frame frame lists journal records =
    let shown = none_of_shown frame (live_in records) (players_in records) in
    ap (λ ns. frame ∷ ns)
    (parts frames_in frames-append (map_list no_line lists.refused) (map_list joined_line lists.joined) (map_list did_line journal) (to_lines frame records)
    ∙ only_third _ _ _ _ [] (none_of_refused lists.refused).1 (none_of_joined lists.joined).1 (no_frame-done journal) shown.1)

items_of_dids : (es : List Entry) → sum_by items_got (map_list did_of es) ≡ items_in es
items_of_dids [] = refl
items_of_dids (e ∷ es) =
    let got : Entry → ℕ = λ (k : Entry). items_among k.reply.got in
    omega (arith, sum_by-cons items_got (did_of e) (map_list did_of es), sum_by-cons got e es, items_of_dids es)

length-dids : (es : List Entry) → length (map_list did_of es) ≡ length es
length-dids [] = refl
length-dids (e ∷ es) = omega (arith, length-dids es)

-- ---- frames after frames

record AreSums (lines : List OutLine) (rs : List Receiving) (js : List (List Entry)) : Type 0 where
  frames : length js ≡ length (frames_in lines)
  joins : sum_by joins_in rs ≡ length (packet_lines.joins_in lines)
  moves : sum_by (λ (j : List Entry). length j) js ≡ length (dids_in lines)
  refused : sum_by refused_in rs ≡ length (packet_lines.refusals_in lines)
  items : sum_by items_in js ≡ sum_by items_got (dids_in lines)

-- the lines of a frame before those of others
sums-more : (map : MapView) (frame : ℕ) (state : State) (arrivals : List Arrival) (j : List Entry) (there : List OutLine) (rs : List Receiving) (js : List (List Entry))
    → AreSums there rs js
    → let r = received_in map frame state arrivals in AreSums (lines_with map frame r j ++ there) (r ∷ rs) (j ∷ js)
sums-more map frame state arrivals j there rs js rest =
    let r = received_in map frame state arrivals in
    let here = lines_with map frame r j in
    let records = (moved_by map r j).records in
    let answers = one_answer_each map frame state arrivals j in
    let count : List Entry → ℕ = λ (k : List Entry). length k in
    let frames = ap length (frames-append here there) ∙ length-append (frames_in here) (frames_in there) in
    let dids = dids-append here there in
    let moves = ap length dids ∙ length-append (dids_in here) (dids_in there) in
    let done = dids_of_frame frame r.lists j records in
    let items = ap (sum_by items_got) dids ∙ sum_by-append items_got (dids_in here) (dids_in there) in
    record {
      frames = omega (arith, frames, ap length (frames_of_frame frame r.lists j records), rest.frames);
      joins = omega (arith, sum_by-cons joins_in r rs, joins-more here there, ap length answers.joins, rest.joins);
      moves = omega (arith, sum_by-cons count j js, moves, ap length done, length-dids j, rest.moves);
      refused = omega (arith, sum_by-cons refused_in r rs, refusals-more here there, ap length answers.refusals, rest.refused);
      items = omega (arith, sum_by-cons items_in j js, items, ap (sum_by items_got) done, items_of_dids j, rest.items);
    }

sums-of : (map : MapView) (frame : ℕ) (state : State) (frames : List (List Arrival)) (js : List (List Entry)) → length js ≡ length frames
    → AreSums (run_lines map frame state frames js) (receptions map frame state frames js) js
sums-of map frame state [] [] same = record { frames = refl; joins = refl; moves = refl; refused = refl; items = refl }
sums-of map frame state [] (j ∷ js) same = absurd (omega (arith, same))
sums-of map frame state (arrivals ∷ frames) [] same = absurd (omega (arith, same))
sums-of map frame state (arrivals ∷ frames) (j ∷ js) same =
    let next = state_after map (received_in map frame state arrivals) j in
    sums-more map frame state arrivals j (run_lines map (frame + 1) next frames js) (receptions map (frame + 1) next frames js) js
    (sums-of map (frame + 1) next frames js (omega (arith, same)))

pub totals_are_of_the_output : TotalsAreOfTheOutput
totals_are_of_the_output = λ map frames js same.
    let sums = sums-of map 0 (opening map) frames js same in
    record { frames = sums.frames; joins = sums.joins; moves = sums.moves; refused = sums.refused; items = sums.items }
