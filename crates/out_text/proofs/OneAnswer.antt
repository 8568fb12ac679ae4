-- The `no` and `joined` lines of a frame are the refusals and the joins of its packets, each once and in their order.
use Rattle.std.proofs.Common.{◌≡◌, ◌⊎◌, ℕ, zero, suc, ◌+◌, ◌-◌, ◌*◌, ◌<◌, ◌≤◌, Bool, cond, List, [], ◌∷◌, ◌++◌, length, map, drop, All, Option, Some, slice_get, refl, sym, ap, ◌∙◌, subst, inl, inr, arith, length-append, append-nil, append_assoc}
use Rattle.std.specs.Prelude.{flat_map, count_by}
use Rattle.std.specs.List.Sorted.{IsStrictlyIncreasing}
use Rattle.std.proofs.Math.Seq.{drop-append_seam}
use Rattle.std.proofs.lemmas.List.{length_push, map-append}
use Rattle.std.proofs.lemmas.List.Elements.{All-head, All-nil, All-push, All-tail, All-weaker}
use Rattle.std.proofs.lemmas.List.Sums.{sum_by-append, sum_by-cons}
use Rattle.std.proofs.lemmas.Option.{slice_get_within}
use Rattle.entity_recs.specs.declared.rec.Rec.{Rec}
use Rattle.entity_recs.specs.declared.effect.Entry.{Entry}
use Rattle.entity_recs.specs.Commands.{Command}
use Rattle.entity_recs.proofs.Ids.{rising_with}
use Rattle.arena_map.specs.Maps.{MapView}
use Rattle.world_tree.specs.Live.{live_in}
use Rattle.plain_server.specs.Replies.{players_in}
use Rattle.packet_read.specs.declared.arrival.Arrival.{Arrival}
use Rattle.packet_read.specs.Reading.{reading}
use Rattle.client_ports.specs.declared.received.Refused.{Refused}
use Rattle.client_ports.specs.declared.received.Joined.{Joined}
use Rattle.client_ports.specs.Lists.{Lists, no_lists}
use Rattle.client_ports.specs.States.{State}
use Rattle.client_ports.specs.Receiving.{Receiving, receiving_of, after_arrival, after_arrivals, received}
use Rattle.client_ports.specs.Laws.{IsRefused, IsJoined, IsLeave, IsMove}
use Rattle.client_ports.specs.Frames.{leaver_count, moves_from, moves_by_packet, is_some_move, command_count, HaveFewMoves}
use Rattle.client_ports.proofs.NewMoves.{read-few}
use Rattle.client_ports.proofs.Facts.{one_answer}
use Rattle.client_ports.proofs.Counts.{moves_of_commands, packets_answered, true-lt}
use Rattle.client_ports.proofs.Rooms.{count-few}
use Rattle.plain_server.specs.Frames.{state_after_tick, received_in, moved_by}
use Rattle.out_text.specs.OutLines.{OutLine, FrameLine, FromLine, NoLine, JoinedLine, DidLine, ToLine, EndLine}
use Rattle.out_text.specs.FrameLines.{no_line, joined_line, did_line, to_line, to_lines, frame_lines}
use Rattle.out_text.specs.PacketLines.{refusals_in, joins_in, place_of, HasOneCommandAtMost}
use Rattle.out_text.specs.Laws.{FramesAnswerTheirPackets}

-- ---- what the lines say

pub refusals-append : (xs ys : List OutLine) → refusals_in (xs ++ ys) ≡ refusals_in xs ++ refusals_in ys
refusals-append [] ys = refl
refusals-append (FrameLine frame ∷ xs) ys = refusals-append xs ys
refusals-append (FromLine port bytes ∷ xs) ys = refusals-append xs ys
refusals-append (NoLine place why ∷ xs) ys = ap (λ ts. record { place = place; why = why } ∷ ts) (refusals-append xs ys)
refusals-append (JoinedLine port slot ∷ xs) ys = refusals-append xs ys
refusals-append (DidLine did ∷ xs) ys = refusals-append xs ys
refusals-append (ToLine slot bytes ∷ xs) ys = refusals-append xs ys
refusals-append (EndLine frames ∷ xs) ys = refusals-append xs ys

joins-append : (xs ys : List OutLine) → joins_in (xs ++ ys) ≡ joins_in xs ++ joins_in ys
joins-append [] ys = refl
joins-append (FrameLine frame ∷ xs) ys = joins-append xs ys
joins-append (FromLine port bytes ∷ xs) ys = joins-append xs ys
joins-append (NoLine place why ∷ xs) ys = joins-append xs ys
joins-append (JoinedLine port slot ∷ xs) ys = ap (λ js. record { port = port; slot = slot } ∷ js) (joins-append xs ys)
joins-append (DidLine did ∷ xs) ys = joins-append xs ys
joins-append (ToLine slot bytes ∷ xs) ys = joins-append xs ys
joins-append (EndLine frames ∷ xs) ys = joins-append xs ys

each-refused : (ts : List Refused) → refusals_in (map no_line ts) ≡ ts
each-refused [] = refl
each-refused (t ∷ ts) = ap (λ (rest : List Refused). t ∷ rest) (each-refused ts)

none-joined : (js : List Joined) → refusals_in (map joined_line js) ≡ []
none-joined [] = refl
none-joined (j ∷ js) = none-joined js

none-done : (es : List Entry) → refusals_in (map did_line es) ≡ []
none-done [] = refl
none-done (e ∷ es) = none-done es

none-shown : (frame : ℕ) (live players : List Rec) → refusals_in (map (to_line frame live) players) ≡ []
none-shown frame live [] = refl
none-shown frame live (me ∷ players) = none-shown frame live players

refusals_of_frame : (frame : ℕ) (lists : Lists) (journal : List Entry) (records : List (Option Rec)) → refusals_in (frame_lines frame lists journal records) ≡ lists.refused
refusals_of_frame frame lists journal records =
    let refused = map no_line lists.refused in
    let joined = map joined_line lists.joined in
    let done = map did_line journal in
    let first : refusals_in (refused ++ joined) ≡ lists.refused =
    refusals-append refused joined ∙ ap (λ ts. refusals_in refused ++ ts) (none-joined lists.joined) ∙ append-nil (refusals_in refused) ∙ each-refused lists.refused in
    let before : refusals_in (refused ++ joined ++ done) ≡ lists.refused =
    refusals-append (refused ++ joined) done ∙ ap (λ ts. refusals_in (refused ++ joined) ++ ts) (none-done journal) ∙ append-nil (refusals_in (refused ++ joined)) ∙ first in
    refusals-append (refused ++ joined ++ done) (to_lines frame records)
    ∙ ap (λ ts. refusals_in (refused ++ joined ++ done) ++ ts) (none-shown frame (live_in records) (players_in records))
    ∙ append-nil (refusals_in (refused ++ joined ++ done))
    ∙ before

no_joins-refused : (ts : List Refused) → joins_in (map no_line ts) ≡ []
no_joins-refused [] = refl
no_joins-refused (t ∷ ts) = no_joins-refused ts

each-joined : (js : List Joined) → joins_in (map joined_line js) ≡ js
each-joined [] = refl
each-joined (j ∷ js) = ap (λ (rest : List Joined). j ∷ rest) (each-joined js)

no_joins-done : (es : List Entry) → joins_in (map did_line es) ≡ []
no_joins-done [] = refl
no_joins-done (e ∷ es) = no_joins-done es

no_joins-shown : (frame : ℕ) (live players : List Rec) → joins_in (map (to_line frame live) players) ≡ []
no_joins-shown frame live [] = refl
no_joins-shown frame live (me ∷ players) = no_joins-shown frame live players

joins_of_frame : (frame : ℕ) (lists : Lists) (journal : List Entry) (records : List (Option Rec)) → joins_in (frame_lines frame lists journal records) ≡ lists.joined
joins_of_frame frame lists journal records =
    let refused = map no_line lists.refused in
    let joined = map joined_line lists.joined in
    let done = map did_line journal in
    let first : joins_in (refused ++ joined) ≡ lists.joined =
    joins-append refused joined ∙ ap (λ js. js ++ joins_in joined) (no_joins-refused lists.refused) ∙ each-joined lists.joined in
    let before : joins_in (refused ++ joined ++ done) ≡ lists.joined =
    joins-append (refused ++ joined) done ∙ ap (λ js. joins_in (refused ++ joined) ++ js) (no_joins-done journal) ∙ append-nil (joins_in (refused ++ joined)) ∙ first in
    joins-append (refused ++ joined ++ done) (to_lines frame records)
    ∙ ap (λ js. joins_in (refused ++ joined ++ done) ++ js) (no_joins-shown frame (live_in records) (players_in records))
    ∙ append-nil (joins_in (refused ++ joined ++ done))
    ∙ before

-- ---- the receive pass

-- at the place of a packet that gave no moves
abbrev GaveNone : List (List Command) → ℕ → Type 0
GaveNone given place = slice_get given place ≡ Some []

-- after so many packets, which gave these moves
record IsAnswered (n : ℕ) (given : List (List Command)) (l : Lists) : Type 0 where
  count : length given ≡ n
  rising : IsStrictlyIncreasing (map place_of l.refused)
  none : All (GaveNone given) (map place_of l.refused)
  few : length l.refused + length l.joined + count_by is_some_move given ≤ n

-- 1 where there is a move, and else 0
given_by : List Command → ℕ
given_by moves = cond (is_some_move moves) 1 0

none-given : given_by [] ≡ 0
unfolding given_by
none-given = refl

some-given : (c : Command) (moves : List Command) → given_by (c ∷ moves) ≡ 1
unfolding given_by
some-given c moves = ap (λ (b : Bool). cond b 1 0) (true-lt (length (c ∷ moves)) (omega arith))

one-given : (moves : List Command) → given_by moves ≤ 1
one-given [] = omega (arith, none-given)
one-given (c ∷ moves) = omega (arith, some-given c moves)

given-push : (given : List (List Command)) (moves : List Command) → count_by is_some_move (given ++ moves ∷ []) ≡ count_by is_some_move given + given_by moves
unfolding given_by
given-push given moves =
    let f : List Command → ℕ = λ (l : List Command). cond (is_some_move l) 1 0 in
    let last : count_by is_some_move (moves ∷ []) ≡ f moves + 0 = sum_by-cons f moves [] in
    omega (arith, sum_by-append f given (moves ∷ []), last)

got-before : (given : List (List Command)) (moves : List Command) (place : ℕ) → GaveNone given place → GaveNone (given ++ moves ∷ []) place
got-before [] moves zero at = cc
got-before [] moves (suc place) at = cc
got-before (first ∷ given) moves zero at = at
got-before (first ∷ given) moves (suc place) at = got-before given moves place at

got-last : (given : List (List Command)) (moves : List Command) → slice_get (given ++ moves ∷ []) (length given) ≡ Some moves
got-last [] moves = refl
got-last (first ∷ given) moves = got-last given moves

all-before : (given : List (List Command)) (moves : List Command) (places : List ℕ) → All (GaveNone given) places → All (GaveNone (given ++ moves ∷ [])) places
all-before given moves places none = All-weaker (GaveNone given) (GaveNone (given ++ moves ∷ [])) (got-before given moves) places none

places-below : (n : ℕ) (given : List (List Command)) (places : List ℕ) → length given ≡ n → All (GaveNone given) places → All (λ place. place < n) places
places-below n given places count none =
    All-weaker (GaveNone given) (λ place. place < n) (λ place at. omega (arith, count, slice_get_within given place [] at)) places none

-- the moves that come after those before
new_moves : Receiving → Receiving → List Command
new_moves r next = drop (length r.lists.moves) next.lists.moves

none-new : (r next : Receiving) (l : Lists) → next.lists ≡ l → l.moves ≡ r.lists.moves → new_moves r next ≡ []
unfolding new_moves
none-new r next l e same =
    let is : next.lists.moves ≡ r.lists.moves ++ [] = ap (λ (m : Lists). m.moves) e ∙ same ∙ sym (append-nil r.lists.moves) in
    ap (drop (length r.lists.moves)) is ∙ drop-append_seam r.lists.moves []

answered-step : (arena : MapView) (frame n : ℕ) (given : List (List Command)) (r : Receiving) (a : Arrival) → IsAnswered n given r.lists
    → let next = after_arrival arena frame r n a in IsAnswered (n + 1) (given ++ new_moves r next ∷ []) next.lists
answered-step arena frame n given r a is = by (one_answer arena frame r n a)
  where
    next : Receiving
    next = after_arrival arena frame r n a

    new : List Command
    new = new_moves r next

    now : List (List Command)
    now = given ++ new ∷ []

    places : List ℕ
    places = map place_of r.lists.refused

    count : length now ≡ n + 1
    count = omega (arith, is.count, length-append given (new ∷ []))

    by : (IsRefused r next n ⊎ IsJoined arena r next a) ⊎ (IsLeave r next a ⊎ IsMove frame r next a) → IsAnswered (n + 1) now next.lists
    by (inl (inl f)) =
        let last : Refused = record { place = n; why = f.why } in
        let more : map place_of (r.lists.refused ++ last ∷ []) ≡ places ++ n ∷ [] = map-append place_of r.lists.refused (last ∷ []) in
        let nothing : new ≡ [] = none-new r next _ f.lists refl in
        let here : GaveNone now n = ap (slice_get now) (sym is.count) ∙ got-last given new ∙ ap (λ (l : List Command). Some l) nothing in
        let all : All (GaveNone now) (places ++ n ∷ []) = All-push (GaveNone now) places n (all-before given new places is.none) here in
        subst (IsAnswered (n + 1) now) (sym f.lists) (record {
          count = count;
          rising = subst IsStrictlyIncreasing (sym more) (rising_with places n is.rising (places-below n given places is.count is.none));
          none = subst (All (GaveNone now)) (sym more) all;
          few = omega (arith, length_push r.lists.refused last, is.few, given-push given new, ap given_by nothing, none-given);
        })
    by (inl (inr j)) =
        let nothing : new ≡ [] = none-new r next _ j.lists refl in
        subst (IsAnswered (n + 1) now) (sym j.lists) (record {
          count = count;
          rising = is.rising;
          none = all-before given new places is.none;
          few = omega (
            arith,
            length-append r.lists.joined (record { port = a.port; slot = j.to.slot } ∷ []),
            is.few,
            given-push given new,
            ap given_by nothing,
            none-given,
          );
        })
    by (inr (inl l)) =
        subst (IsAnswered (n + 1) now) (sym l.lists) (record {
          count = count;
          rising = is.rising;
          none = all-before given new places is.none;
          few = omega (arith, is.few, given-push given new, one-given new);
        })
    by (inr (inr m)) =
        subst (IsAnswered (n + 1) now) (sym m.lists) (record {
          count = count;
          rising = is.rising;
          none = all-before given new places is.none;
          few = omega (arith, is.few, given-push given new, one-given new);
        })

same-answered : (n m : ℕ) (given other : List (List Command)) (l : Lists) → n ≡ m → given ≡ other → IsAnswered n given l → IsAnswered m other l
same-answered n m given other l e f is =
    subst (λ (k : ℕ). IsAnswered k other l) e (subst (λ (ms : List (List Command)). IsAnswered n ms l) f is)

answered-through : (arena : MapView) (frame n : ℕ) (given : List (List Command)) (r : Receiving) (arrivals : List Arrival) → IsAnswered n given r.lists
    → IsAnswered (n + length arrivals) (given ++ moves_from arena frame r n arrivals) (after_arrivals arena frame r n arrivals).lists
unfolding new_moves
answered-through arena frame n given r [] is = same-answered n (n + 0) given (given ++ []) r.lists (omega arith) (sym (append-nil given)) is
answered-through arena frame n given r (a ∷ more) is =
    let next = after_arrival arena frame r n a in
    let new = drop (length r.lists.moves) next.lists.moves in
    let rest = moves_from arena frame next (n + 1) more in
    same-answered (n + 1 + length more) (n + suc (length more)) (given ++ new ∷ [] ++ rest) (given ++ new ∷ rest) (after_arrivals arena frame next (n + 1) more).lists (omega arith)
    (append_assoc given (new ∷ []) rest) (answered-through arena frame (n + 1) (given ++ new ∷ []) next more (answered-step arena frame n given r a is))

none-answered : IsAnswered 0 [] no_lists
none-answered = record { count = refl; rising = λ k more. absurd (omega (arith, more)); none = All-nil _; few = omega arith }

received-answered : (arena : MapView) (frame : ℕ) (state : State) (arrivals : List Arrival)
    → IsAnswered (length arrivals) (moves_by_packet arena frame state arrivals) (received arena frame state arrivals).lists
unfolding received
received-answered arena frame state arrivals =
    let r = receiving_of state no_lists in
    subst (λ (n : ℕ). IsAnswered n (moves_by_packet arena frame state arrivals) (after_arrivals arena frame r 0 arrivals).lists) (omega arith)
    (answered-through arena frame 0 [] r arrivals none-answered)

-- ---- the moves of the packets

-- at most 3 moves are at most 3 times the count
given-few : (moves : List Command) → length moves ≤ 3 → length moves ≤ 3 * given_by moves
given-few [] few = omega arith
given-few (c ∷ moves) few = omega (arith, few, some-given c moves)

given-one : (moves : List Command) → length moves ≤ 1 → length moves ≡ given_by moves
given-one [] few = omega (arith, none-given)
given-one (c ∷ moves) few = omega (arith, few, some-given c moves)

-- the moves of some packets, put together
abbrev all_of : List (List Command) → List Command
all_of given = flat_map (λ moves. moves) given

given-more : (moves : List Command) (others : List (List Command)) → count_by is_some_move (moves ∷ others) ≡ given_by moves + count_by is_some_move others
unfolding given_by
given-more moves others = sum_by-cons (λ (l : List Command). cond (is_some_move l) 1 0) moves others

-- packets give at most 3 moves each
all-few : (given : List (List Command)) (arrivals : List Arrival) → HaveFewMoves given arrivals → length (all_of given) ≤ 3 * count_by is_some_move given
all-few [] [] few = omega arith
all-few [] (a ∷ more) few = absurd few
all-few (moves ∷ others) [] few = absurd few
all-few (moves ∷ others) (a ∷ more) few =
    let three = count-few (reading a.bytes) (read-few a.bytes) in
    let here : length moves ≤ 3 = omega (arith, few.0, three) in
    omega (arith, length-append moves (all_of others), given-few moves here, given-more moves others, all-few others more few.1)

-- and one move each, where each has one command at the most
all-single : (given : List (List Command)) (arrivals : List Arrival) → HaveFewMoves given arrivals → All HasOneCommandAtMost arrivals → length (all_of given) ≡ count_by is_some_move given
all-single [] [] few ones = refl
all-single [] (a ∷ more) few ones = absurd few
all-single (moves ∷ others) [] few ones = absurd few
all-single (moves ∷ others) (a ∷ more) few ones =
    let one : command_count (reading a.bytes) ≤ 1 = All-head HasOneCommandAtMost a more ones in
    let here : length moves ≤ 1 = omega (arith, few.0, one) in
    omega (arith, length-append moves (all_of others), given-one moves here, given-more moves others, all-single others more few.1 (All-tail HasOneCommandAtMost a more ones))

-- where no more leave before than after, the difference is how many more do
leavers-new : (before after answers packets : ℕ) → answers ≤ packets → answers + after ≡ packets + before → answers + (after - before) ≡ packets
leavers-new before after answers packets few all = omega (arith, few, all)

pub one_answer_each : FramesAnswerTheirPackets
one_answer_each arena frame state arrivals journal =
    let before = state_after_tick arena frame state in
    let r = received_in arena frame state arrivals in
    let records = (moved_by arena r journal).records in
    let is = received-answered arena frame before arrivals in
    let refusals = refusals_of_frame frame r.lists journal records in
    let joins = joins_of_frame frame r.lists journal records in
    let given = moves_by_packet arena frame before arrivals in
    let moves : all_of given ≡ r.lists.moves = moves_of_commands.all arena frame before arrivals in
    let each : HaveFewMoves given arrivals = moves_of_commands.each arena frame before arrivals in
    let answers = length r.lists.refused + length r.lists.joined + count_by is_some_move given in
    let all = leavers-new (leaver_count before.clients) (leaver_count r.state.clients) answers (length arrivals) is.few (packets_answered arena frame before arrivals) in
    record {
      refusals = refusals;
      joins = joins;
      rising = subst (λ (ts : List Refused). IsStrictlyIncreasing (map place_of ts)) (sym refusals) is.rising;
      within = subst (λ (ts : List Refused). All (λ place. place < length arrivals) (map place_of ts)) (sym refusals) (places-below (length arrivals) given (map place_of r.lists.refused) is.count is.none);
      none = subst (λ (ts : List Refused). All (GaveNone given) (map place_of ts)) (sym refusals) is.none;
      moves = moves;
      each = each;
      answers = omega (arith, ap length refusals, ap length joins, all);
      few = omega (arith, ap length moves, all-few given arrivals each);
      singles = λ ones. omega (arith, ap length refusals, ap length joins, ap length moves, all-single given arrivals each ones, all);
    }
