-- Frames that are fed: their lines put together and taken apart, and what their packets keep of those of the recording.
use Rattle.std.proofs.Common.{◌≡◌, ◌⊎◌, inl, inr, ℕ, zero, suc, ◌+◌, ◌^◌, ◌<◌, ◌≤◌, Bool, true, false, cond, All, List, [], ◌∷◌, ◌++◌, length, map, filter, take, drop, refl, sym, ap, ◌∙◌, subst, append_assoc, append-nil, add-zero, arith, length-append, take-append-drop}
use Rattle.std.specs.List.{AllByRecursion}
use Rattle.std.proofs.lemmas.Bool.Decides.{nat_tests}
use Rattle.std.proofs.lemmas.List.Elements.{All-head, All-tail, All-from_recursion}
use Rattle.entity_recs.specs.declared.effect.Entry.{Entry}
use Rattle.arena_map.specs.Maps.{MapView}
use Rattle.packet_read.specs.declared.arrival.Arrival.{Arrival}
use Rattle.client_ports.specs.States.{State}
use Rattle.plain_server.specs.Entries.{HasBytes}
use Rattle.plain_server.specs.Frames.{received_in, state_after, state_played}
use Rattle.out_text.specs.OutLines.{text_of}
use Rattle.out_text.specs.FrameLines.{lines_with}
use Rattle.packet_read.specs.Orders.{is_from}
use Rattle.out_text.specs.Feeds.{IsFeedOf, AreFeedsOf, with_froms, fed_lines}
use Rattle.out_text.proofs.Reporting.{HaveBytes}
use Rattle.out_text.proofs.Runs.{text_of-append, next_number, same_taken}
use Rattle.out_text.proofs.SmallFrames.{HasPort, IsSmallFrame, AreSmallFrames}
use Rattle.out_text.proofs.Fitting.{IsShort}
use Rattle.out_text.proofs.FedReadBack.{IsRead, AreRead}

-- ---- the packets of a frame that is fed

-- the packet is one of these
abbrev In : Arrival → List Arrival → Type 0
In a [] = ⊥
In a (x ∷ xs) = (x ≡ a) ⊎ In a xs

in_head : (p : Arrival → Bool) (b : Bool) (a x : Arrival) (xs : List Arrival) → p x ≡ b → p a ≡ true → (x ≡ a) ⊎ In a (filter p xs) → In a (cond b (x ∷ filter p xs) (filter p xs))
in_head p true a x xs is has here = here
in_head p false a x xs is has (inl e) = let never : false ≡ true = sym is ∙ ap p e ∙ has in cc
in_head p false a x xs is has (inr more) = more

in_filter : (p : Arrival → Bool) (a : Arrival) (xs : List Arrival) → p a ≡ true → In a xs → In a (filter p xs)
in_filter p a [] has never = never
in_filter p a (x ∷ xs) has (inl e) = in_head p (p x) a x xs refl has (inl e)
in_filter p a (x ∷ xs) has (inr more) = in_head p (p x) a x xs refl has (inr (in_filter p a xs has more))

from_head : (b : Bool) (a x : Arrival) (xs ys : List Arrival) → (In a ys → In a xs) → In a (cond b (x ∷ ys) ys) → (x ≡ a) ⊎ In a xs
from_head true a x xs ys on (inl e) = inl e
from_head true a x xs ys on (inr more) = inr (on more)
from_head false a x xs ys on more = inr (on more)

from_filter : (p : Arrival → Bool) (a : Arrival) (xs : List Arrival) → In a (filter p xs) → In a xs
from_filter p a [] never = never
from_filter p a (x ∷ xs) h = from_head (p x) a x xs (filter p xs) (from_filter p a xs) h

all_in : (P : Arrival → Type 0) (a : Arrival) (xs : List Arrival) → AllByRecursion P xs → In a xs → P a
all_in P a [] all never = absurd never
all_in P a (x ∷ xs) all (inl e) = subst P e all.0
all_in P a (x ∷ xs) all (inr more) = all_in P a xs all.1 more

each_in : (P : Arrival → Type 0) (xs : List Arrival) → ((a : Arrival) → In a xs → P a) → AllByRecursion P xs
each_in P [] each = tt
each_in P (x ∷ xs) each = (each x (inl refl), each_in P xs (λ a more. each a (inr more)))

-- what holds of each packet of a frame, holds of each that arrived
pub feed_keeps : (P : Arrival → Type 0) (sent fed : List Arrival) → IsFeedOf sent fed → AllByRecursion P sent → AllByRecursion P fed
feed_keeps P sent fed feed all = each_in P fed (λ a there.
    let own : is_from a.port a ≡ true = grind (arith, nat_tests) in
    all_in P a sent all (from_filter (is_from a.port) a sent (subst (In a) (feed a.port) (in_filter (is_from a.port) a fed own there))))

pub by_recursion : {X : Type 0} (P : X → Type 0) (xs : List X) → All P xs → AllByRecursion P xs
by_recursion P [] all = tt
by_recursion P (x ∷ xs) all = (All-head P x xs all, by_recursion P xs (All-tail P x xs all))

-- the packets of a small frame can be read back
frame_is_read : (arrivals : List Arrival) → IsSmallFrame arrivals → All HasBytes arrivals → AllByRecursion IsRead arrivals
frame_is_read arrivals small bytes = go arrivals (by_recursion HasPort arrivals small.ports) (by_recursion IsShort arrivals small.short) (by_recursion HasBytes arrivals bytes)
  where
    go : (xs : List Arrival) → AllByRecursion HasPort xs → AllByRecursion IsShort xs → AllByRecursion HasBytes xs → AllByRecursion IsRead xs
    go [] ports short have = tt
    go (x ∷ xs) ports short have =
        (record { port = ports.0; short = short.0; bytes = by_recursion (λ b. b < 2 ^ 8) x.bytes have.0 }, go xs ports.1 short.1 have.1)

pub feeds_are_read : (frames feeds : List (List Arrival)) → AreFeedsOf frames feeds → AreSmallFrames frames → HaveBytes frames → AreRead feeds
feeds_are_read [] [] are small bytes = tt
feeds_are_read [] (fed ∷ feeds) are small bytes = absurd are
feeds_are_read (sent ∷ frames) [] are small bytes = absurd are
feeds_are_read (sent ∷ frames) (fed ∷ feeds) are small bytes =
    (feed_keeps IsRead sent fed are.0 (frame_is_read sent small.0 bytes.0), feeds_are_read frames feeds are.1 small.1 bytes.1)

pub feeds_have_bytes : (frames feeds : List (List Arrival)) → AreFeedsOf frames feeds → HaveBytes frames → HaveBytes feeds
feeds_have_bytes [] [] are bytes = tt
feeds_have_bytes [] (fed ∷ feeds) are bytes = absurd are
feeds_have_bytes (sent ∷ frames) [] are bytes = absurd are
feeds_have_bytes (sent ∷ frames) (fed ∷ feeds) are bytes =
    (All-from_recursion HasBytes fed (feed_keeps HasBytes sent fed are.0 (by_recursion HasBytes sent bytes.0)), feeds_have_bytes frames feeds are.1 bytes.1)

-- ---- lists of frames

pub length-feeds : (frames feeds : List (List Arrival)) → AreFeedsOf frames feeds → length feeds ≡ length frames
length-feeds [] [] are = refl
length-feeds [] (fed ∷ feeds) are = absurd are
length-feeds (sent ∷ frames) [] are = absurd are
length-feeds (sent ∷ frames) (fed ∷ feeds) are = ap suc (length-feeds frames feeds are.1)

pub feeds-push : (frames feeds : List (List Arrival)) (sent fed : List Arrival) → AreFeedsOf frames feeds → IsFeedOf sent fed → AreFeedsOf (frames ++ sent ∷ []) (feeds ++ fed ∷ [])
feeds-push [] [] sent fed are here = (here, tt)
feeds-push [] (f ∷ feeds) sent fed are here = absurd are
feeds-push (s ∷ frames) [] sent fed are here = absurd are
feeds-push (s ∷ frames) (f ∷ feeds) sent fed are here = (are.0, feeds-push frames feeds sent fed are.1 here)

-- frames that aren't fed yet stand in their own order
pub feeds-own : (frames : List (List Arrival)) → AreFeedsOf frames frames
feeds-own [] = tt
feeds-own (sent ∷ frames) = ((λ port. refl), feeds-own frames)

pub feeds-append : (frames feeds more others : List (List Arrival)) → AreFeedsOf frames feeds → AreFeedsOf more others → AreFeedsOf (frames ++ more) (feeds ++ others)
feeds-append [] [] more others are here = here
feeds-append [] (f ∷ feeds) more others are here = absurd are
feeds-append (s ∷ frames) [] more others are here = absurd are
feeds-append (s ∷ frames) (f ∷ feeds) more others are here = (are.0, feeds-append frames feeds more others are.1 here)

pub feeds-take : (k : ℕ) (frames feeds : List (List Arrival)) → AreFeedsOf frames feeds → AreFeedsOf (take k frames) (take k feeds)
feeds-take zero frames feeds are = tt
feeds-take (suc k) [] [] are = tt
feeds-take (suc k) [] (f ∷ feeds) are = absurd are
feeds-take (suc k) (s ∷ frames) [] are = absurd are
feeds-take (suc k) (s ∷ frames) (f ∷ feeds) are = (are.0, feeds-take k frames feeds are.1)

-- ---- lines

-- the lines of frames after frames
pub fed_lines-append : (map : MapView) (frame : ℕ) (s : State) (xs ys : List (List Arrival)) (js ks : List (List Entry)) → length js ≡ length xs
    → fed_lines map frame s (xs ++ ys) (js ++ ks) ≡ fed_lines map frame s xs js ++ fed_lines map (frame + length xs) (state_played map frame s xs js) ys ks
fed_lines-append map frame s [] ys [] ks same = ap (λ n. fed_lines map n s ys ks) (sym (add-zero frame))
fed_lines-append map frame s [] ys (j ∷ js) ks same = cc
fed_lines-append map frame s (x ∷ xs) ys [] ks same = cc
fed_lines-append map frame s (x ∷ xs) ys (j ∷ js) ks same =
    let r = received_in map frame s x in
    let next = state_after map r j in
    let here = with_froms x (lines_with map frame r j) in
    let last = state_played map (frame + 1) next xs js in
    let rest : length js ≡ length xs = cc in
    ap (λ ls. here ++ ls) (fed_lines-append map (frame + 1) next xs ys js ks rest)
    ∙ sym (append_assoc here (fed_lines map (frame + 1) next xs js) (fed_lines map (frame + 1 + length xs) last ys ks))
    ∙ ap (λ n. here ++ fed_lines map (frame + 1) next xs js ++ fed_lines map n last ys ks) (next_number frame (length xs))

pub fed_lines-push : (map : MapView) (frame : ℕ) (s : State) (feeds : List (List Arrival)) (fed : List Arrival) (js : List (List Entry)) (j : List Entry) → length js ≡ length feeds
    → fed_lines map frame s (feeds ++ fed ∷ []) (js ++ j ∷ [])
    ≡ fed_lines map frame s feeds js ++ with_froms fed (lines_with map (frame + length feeds) (received_in map (frame + length feeds) (state_played map frame s feeds js) fed) j)
fed_lines-push map frame s feeds fed js j same =
    fed_lines-append map frame s feeds (fed ∷ []) js (j ∷ []) same
    ∙ ap (λ ls. fed_lines map frame s feeds js ++ ls)
    (append-nil (with_froms fed (lines_with map (frame + length feeds) (received_in map (frame + length feeds) (state_played map frame s feeds js) fed) j)))

-- the text of the first frames is no longer than that of all
pub fewer_fed_are_shorter : (map : MapView) (s : State) (k : ℕ) (feeds : List (List Arrival)) (js : List (List Entry)) → length js ≡ length feeds
    → length (text_of (fed_lines map 0 s (take k feeds) (take k js))) ≤ length (text_of (fed_lines map 0 s feeds js))
fewer_fed_are_shorter map s k feeds js same =
    let first = take k feeds in
    let journals = take k js in
    let front = fed_lines map 0 s first journals in
    let rest = fed_lines map (0 + length first) (state_played map 0 s first journals) (drop k feeds) (drop k js) in
    let both = fed_lines-append map 0 s first (drop k feeds) journals (drop k js) (same_taken k feeds js same) in
    let whole = ap (λ fs. text_of (fed_lines map 0 s fs js)) (sym (take-append-drop k feeds))
    ∙ ap (λ ls. text_of (fed_lines map 0 s (first ++ drop k feeds) ls)) (sym (take-append-drop k js)) ∙ ap text_of both in
    omega (arith, ap length (whole ∙ text_of-append front rest), length-append (text_of front) (text_of rest))
