-- Runs of frames: their lines, their states and their journals, put together and taken apart.
use Rattle.std.proofs.Common.{◌≡◌, ℕ, zero, suc, ◌+◌, ◌≤◌, List, [], ◌∷◌, ◌++◌, length, take, drop, refl, sym, ap, ◌∙◌, subst, append_assoc, append-nil, add-zero, arith, length-append, take-append-drop}
use Rattle.std.proofs.lemmas.Grind.{flat_map-append}
use Rattle.entity_recs.specs.declared.effect.Entry.{Entry}
use Rattle.arena_map.specs.Maps.{MapView}
use Rattle.packet_read.specs.declared.arrival.Arrival.{Arrival}
use Rattle.client_ports.specs.States.{State}
use Rattle.plain_server.specs.Frames.{received_in, IsRightAfter, state_after, state_played, AreRight, AreInOrder}
use Rattle.move_journal.specs.Merges.{IsInOrder}
use Rattle.out_text.specs.OutLines.{OutLine, printed_line, text_of}
use Rattle.out_text.specs.FrameLines.{lines_with, run_lines}

pub next_number : (frame n : ℕ) → frame + 1 + n ≡ frame + suc n
next_number frame n = omega arith

-- the lines of frames after frames
pub run_lines-append : (map : MapView) (frame : ℕ) (s : State) (xs ys : List (List Arrival)) (js ks : List (List Entry)) → length js ≡ length xs
    → run_lines map frame s (xs ++ ys) (js ++ ks) ≡ run_lines map frame s xs js ++ run_lines map (frame + length xs) (state_played map frame s xs js) ys ks
run_lines-append map frame s [] ys [] ks same = ap (λ n. run_lines map n s ys ks) (sym (add-zero frame))
run_lines-append map frame s [] ys (j ∷ js) ks same = cc
run_lines-append map frame s (x ∷ xs) ys [] ks same = cc
run_lines-append map frame s (x ∷ xs) ys (j ∷ js) ks same =
    let r = received_in map frame s x in
    let next = state_after map r j in
    let here = lines_with map frame r j in
    let last = state_played map (frame + 1) next xs js in
    let rest : length js ≡ length xs = cc in
    ap (λ ls. here ++ ls) (run_lines-append map (frame + 1) next xs ys js ks rest)
    ∙ sym (append_assoc here (run_lines map (frame + 1) next xs js) (run_lines map (frame + 1 + length xs) last ys ks))
    ∙ ap (λ n. here ++ run_lines map (frame + 1) next xs js ++ run_lines map n last ys ks) (next_number frame (length xs))

-- the state after them
pub state_played-append : (map : MapView) (frame : ℕ) (s : State) (xs ys : List (List Arrival)) (js ks : List (List Entry)) → length js ≡ length xs
    → state_played map frame s (xs ++ ys) (js ++ ks) ≡ state_played map (frame + length xs) (state_played map frame s xs js) ys ks
state_played-append map frame s [] ys [] ks same = ap (λ n. state_played map n s ys ks) (sym (add-zero frame))
state_played-append map frame s [] ys (j ∷ js) ks same = cc
state_played-append map frame s (x ∷ xs) ys [] ks same = cc
state_played-append map frame s (x ∷ xs) ys (j ∷ js) ks same =
    let next = state_after map (received_in map frame s x) j in
    let rest : length js ≡ length xs = cc in
    state_played-append map (frame + 1) next xs ys js ks rest
    ∙ ap (λ n. state_played map n (state_played map (frame + 1) next xs js) ys ks) (next_number frame (length xs))

-- right journals after right journals are right
pub right-append : (map : MapView) (frame : ℕ) (s : State) (xs ys : List (List Arrival)) (js ks : List (List Entry)) → AreRight map frame s xs js
    → AreRight map (frame + length xs) (state_played map frame s xs js) ys ks → AreRight map frame s (xs ++ ys) (js ++ ks)
right-append map frame s [] ys [] ks right more = subst (λ (n : ℕ). AreRight map n s ys ks) (add-zero frame) more
right-append map frame s [] ys (j ∷ js) ks right more = absurd right
right-append map frame s (x ∷ xs) ys [] ks right more = absurd right
right-append map frame s (x ∷ xs) ys (j ∷ js) ks right more =
    let next = state_after map (received_in map frame s x) j in
    let P : ℕ → Type 0 = λ n. AreRight map n (state_played map (frame + 1) next xs js) ys ks in
    (right.0, right-append map (frame + 1) next xs ys js ks right.1 (subst P (sym (next_number frame (length xs))) more))

-- and in the order of arrival, where both are
pub in_order-append : (map : MapView) (frame : ℕ) (s : State) (xs ys : List (List Arrival)) (js ks : List (List Entry)) → AreInOrder map frame s xs js
    → AreInOrder map (frame + length xs) (state_played map frame s xs js) ys ks → AreInOrder map frame s (xs ++ ys) (js ++ ks)
in_order-append map frame s [] ys [] ks order more = subst (λ (n : ℕ). AreInOrder map n s ys ks) (add-zero frame) more
in_order-append map frame s [] ys (j ∷ js) ks order more = absurd order
in_order-append map frame s (x ∷ xs) ys [] ks order more = absurd order
in_order-append map frame s (x ∷ xs) ys (j ∷ js) ks order more =
    let next = state_after map (received_in map frame s x) j in
    let P : ℕ → Type 0 = λ n. AreInOrder map n (state_played map (frame + 1) next xs js) ys ks in
    (order.0, in_order-append map (frame + 1) next xs ys js ks order.1 (subst P (sym (next_number frame (length xs))) more))

-- ---- one frame more

pub run_lines-push : (map : MapView) (frame : ℕ) (s : State) (frames : List (List Arrival)) (arrivals : List Arrival) (js : List (List Entry)) (j : List Entry) → length js ≡ length frames
    → run_lines map frame s (frames ++ arrivals ∷ []) (js ++ j ∷ [])
    ≡ run_lines map frame s frames js ++ lines_with map (frame + length frames) (received_in map (frame + length frames) (state_played map frame s frames js) arrivals) j
run_lines-push map frame s frames arrivals js j same =
    run_lines-append map frame s frames (arrivals ∷ []) js (j ∷ []) same
    ∙ ap (λ ls. run_lines map frame s frames js ++ ls)
    (append-nil (lines_with map (frame + length frames) (received_in map (frame + length frames) (state_played map frame s frames js) arrivals) j))

pub state_played-push : (map : MapView) (frame : ℕ) (s : State) (frames : List (List Arrival)) (arrivals : List Arrival) (js : List (List Entry)) (j : List Entry) → length js ≡ length frames
    → state_played map frame s (frames ++ arrivals ∷ []) (js ++ j ∷ [])
    ≡ state_after map (received_in map (frame + length frames) (state_played map frame s frames js) arrivals) j
state_played-push map frame s frames arrivals js j same = state_played-append map frame s frames (arrivals ∷ []) js (j ∷ []) same

pub right-push : (map : MapView) (frame : ℕ) (s : State) (frames : List (List Arrival)) (arrivals : List Arrival) (js : List (List Entry)) (j : List Entry) → AreRight map frame s frames js
    → IsRightAfter map (received_in map (frame + length frames) (state_played map frame s frames js) arrivals) j
    → AreRight map frame s (frames ++ arrivals ∷ []) (js ++ j ∷ [])
right-push map frame s frames arrivals js j right here = right-append map frame s frames (arrivals ∷ []) js (j ∷ []) right (here, tt)

pub in_order-push : (map : MapView) (frame : ℕ) (s : State) (frames : List (List Arrival)) (arrivals : List Arrival) (js : List (List Entry)) (j : List Entry) → AreInOrder map frame s frames js
    → IsInOrder j (received_in map (frame + length frames) (state_played map frame s frames js) arrivals).lists.moves
    → AreInOrder map frame s (frames ++ arrivals ∷ []) (js ++ j ∷ [])
in_order-push map frame s frames arrivals js j order here = in_order-append map frame s frames (arrivals ∷ []) js (j ∷ []) order (here, tt)

-- right journals of frames are right of all but the last, and of the last after those
pub right-split_last : (map : MapView) (frame : ℕ) (s : State) (frames : List (List Arrival)) (arrivals : List Arrival) (js : List (List Entry)) (j : List Entry) → length js ≡ length frames
    → AreRight map frame s (frames ++ arrivals ∷ []) (js ++ j ∷ [])
    → AreRight map frame s frames js × IsRightAfter map (received_in map (frame + length frames) (state_played map frame s frames js) arrivals) j
right-split_last map frame s [] arrivals [] j same right =
    (tt, subst (λ (n : ℕ). IsRightAfter map (received_in map n s arrivals) j) (sym (add-zero frame)) right.0)
right-split_last map frame s [] arrivals (k ∷ js) j same right = absurd (omega (arith, same))
right-split_last map frame s (x ∷ frames) arrivals [] j same right = absurd (omega (arith, same))
right-split_last map frame s (x ∷ frames) arrivals (k ∷ js) j same right =
    let next = state_after map (received_in map frame s x) k in
    let rest = right-split_last map (frame + 1) next frames arrivals js j (omega (arith, same)) right.1 in
    let P : ℕ → Type 0 = λ n. IsRightAfter map (received_in map n (state_played map (frame + 1) next frames js) arrivals) j in
    ((right.0, rest.0), subst P (next_number frame (length frames)) rest.1)

pub in_order-split_last : (map : MapView) (frame : ℕ) (s : State) (frames : List (List Arrival)) (arrivals : List Arrival) (js : List (List Entry)) (j : List Entry) → length js ≡ length frames
    → AreInOrder map frame s (frames ++ arrivals ∷ []) (js ++ j ∷ [])
    → AreInOrder map frame s frames js × IsInOrder j (received_in map (frame + length frames) (state_played map frame s frames js) arrivals).lists.moves
in_order-split_last map frame s [] arrivals [] j same order =
    (tt, subst (λ (n : ℕ). IsInOrder j (received_in map n s arrivals).lists.moves) (sym (add-zero frame)) order.0)
in_order-split_last map frame s [] arrivals (k ∷ js) j same order = absurd (omega (arith, same))
in_order-split_last map frame s (x ∷ frames) arrivals [] j same order = absurd (omega (arith, same))
in_order-split_last map frame s (x ∷ frames) arrivals (k ∷ js) j same order =
    let next = state_after map (received_in map frame s x) k in
    let rest = in_order-split_last map (frame + 1) next frames arrivals js j (omega (arith, same)) order.1 in
    let P : ℕ → Type 0 = λ n. IsInOrder j (received_in map n (state_played map (frame + 1) next frames js) arrivals).lists.moves in
    ((order.0, rest.0), subst P (next_number frame (length frames)) rest.1)

-- ---- the first frames

-- the first journals are right of the first frames
pub right-take : (map : MapView) (frame : ℕ) (s : State) (k : ℕ) (frames : List (List Arrival)) (js : List (List Entry)) → AreRight map frame s frames js
    → AreRight map frame s (take k frames) (take k js)
right-take map frame s zero frames js right = tt
right-take map frame s (suc k) [] [] right = tt
right-take map frame s (suc k) [] (j ∷ js) right = absurd right
right-take map frame s (suc k) (arrivals ∷ frames) [] right = absurd right
right-take map frame s (suc k) (arrivals ∷ frames) (j ∷ js) right =
    (right.0, right-take map (frame + 1) (state_after map (received_in map frame s arrivals) j) k frames js right.1)

pub in_order-take : (map : MapView) (frame : ℕ) (s : State) (k : ℕ) (frames : List (List Arrival)) (js : List (List Entry)) → AreInOrder map frame s frames js
    → AreInOrder map frame s (take k frames) (take k js)
in_order-take map frame s zero frames js order = tt
in_order-take map frame s (suc k) [] [] order = tt
in_order-take map frame s (suc k) [] (j ∷ js) order = absurd order
in_order-take map frame s (suc k) (arrivals ∷ frames) [] order = absurd order
in_order-take map frame s (suc k) (arrivals ∷ frames) (j ∷ js) order =
    (order.0, in_order-take map (frame + 1) (state_after map (received_in map frame s arrivals) j) k frames js order.1)

-- ---- texts

pub text_of-append : (a b : List OutLine) → text_of (a ++ b) ≡ text_of a ++ text_of b
text_of-append a b = flat_map-append printed_line a b

pub same_taken : (k : ℕ) (frames : List (List Arrival)) (js : List (List Entry)) → length js ≡ length frames → length (take k js) ≡ length (take k frames)
same_taken zero frames js same = refl
same_taken (suc k) [] [] same = refl
same_taken (suc k) [] (j ∷ js) same = cc
same_taken (suc k) (x ∷ frames) [] same = cc
same_taken (suc k) (x ∷ frames) (j ∷ js) same = let rest : length js ≡ length frames = cc in ap suc (same_taken k frames js rest)

-- the text of the first frames is no longer than that of all
pub fewer_are_shorter : (map : MapView) (s : State) (k : ℕ) (frames : List (List Arrival)) (js : List (List Entry)) → length js ≡ length frames
    → length (text_of (run_lines map 0 s (take k frames) (take k js))) ≤ length (text_of (run_lines map 0 s frames js))
fewer_are_shorter map s k frames js same =
    let first = take k frames in
    let journals = take k js in
    let front = run_lines map 0 s first journals in
    let rest = run_lines map (0 + length first) (state_played map 0 s first journals) (drop k frames) (drop k js) in
    let both = run_lines-append map 0 s first (drop k frames) journals (drop k js) (same_taken k frames js same) in
    let whole = ap (λ fs. text_of (run_lines map 0 s fs js)) (sym (take-append-drop k frames))
    ∙ ap (λ ls. text_of (run_lines map 0 s (first ++ drop k frames) ls)) (sym (take-append-drop k js)) ∙ ap text_of both in
    omega (arith, ap length (whole ∙ text_of-append front rest), length-append (text_of front) (text_of rest))
