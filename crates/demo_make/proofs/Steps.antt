-- What a generator has left before and after each event.
use Rattle.std.proofs.Common.{◌≡◌, ℕ, zero, suc, ◌+◌, ◌-◌, ◌<◌, ◌≤◌, Bool, true, false, eqb, cond, List, [], ◌∷◌, ◌++◌, map, flat_map, refl, ap, ◌∙◌, arith, append_assoc}
use Rattle.std.specs.List.{range_with_len}
use Rattle.std.proofs.lemmas.List.{map-append}
use Rattle.packet_read.specs.declared.arrival.Arrival.{Arrival}
use Rattle.demo_lines.specs.declared.event.Event.{Event}
use Rattle.demo_lines.specs.declared.event.Event.TheVariants as events
use Rattle.demo_lines.specs.Spelling.{frame_events, recording_events}
use Rattle.demo_make.specs.declared.sending.Sending.{Sending}
use Rattle.demo_make.specs.declared.sending.Sending.TheVariants.{Once, Repeated}
use Rattle.demo_make.specs.GeneratedFrames.{join_from, move_in, joins_in, ports}
use Rattle.demo_make.specs.ResentFrames.{repeat_from}
use Rattle.demo_make.specs.Remaining.{packets_of, frame_of, Progress, sender_in, with_one_sent, comes_in, IsLost, end_unless, events_left, left_of}

abbrev pub place : Sending → ℕ → ℕ → ℕ → ℕ → ℕ → ℕ → Bool → Progress
place sending seed players opened frames joins moves ended = record {
  sending = sending;
  seed = seed;
  players = players;
  opened = opened;
  frames = frames;
  joins = joins;
  moves = moves;
  ended = ended;
}

-- ---- the first of each

pub range-first : (n k : ℕ) → 0 < k → k ≤ n → range_with_len (n - k + 1) k ≡ (n - k + 1) ∷ range_with_len (n - (k - 1) + 1) (k - 1)
range-first n zero some few = absurd (omega arith)
range-first n (suc k) some few =
    let e : suc k - 1 ≡ k = omega arith in
    let next : n - suc k + 1 + 1 ≡ n - k + 1 = omega arith in
    rw e (ap (λ first. (n - suc k + 1) ∷ range_with_len first k) next)

no_packets : (sending : Sending) (seed players frames frame : ℕ) → packets_of sending seed players frames frame [] ≡ []
no_packets Once seed players frames frame = refl
no_packets Repeated seed players frames frame = refl

-- ---- a generator's steps

pub left-join : (sending : Sending) (seed players opened frames joins moves : ℕ) (ended : Bool) → 0 < joins → joins ≤ players
    → left_of (place sending seed players opened frames joins moves ended)
    ≡ events.From (join_from (players - joins + 1)) ∷ left_of (place sending seed players opened frames (joins - 1) moves ended)
unfolding events_left
left-join sending seed players opened frames joins moves ended some few = rw (range-first players joins some few) refl

pub left-once : (seed players opened frames joins moves : ℕ) (ended : Bool) → joins ≡ 0 → 0 < moves → moves ≤ players
    → left_of (place Once seed players opened frames joins moves ended)
    ≡ events.From (move_in seed players (opened - 1) (players - moves + 1)) ∷ left_of (place Once seed players opened frames joins (moves - 1) ended)
unfolding events_left
left-once seed players opened frames joins moves ended none some few = rw none (rw (range-first players moves some few) refl)

pub left-again : (p : Progress) → p.sending ≡ Repeated → p.joins ≡ 0 → 0 < p.moves → p.moves ≤ p.players → comes_in p ≡ true
    → left_of p ≡ events.From (repeat_from p.seed p.players (p.opened - 1) (sender_in p)) ∷ left_of (with_one_sent p)
unfolding events_left
left-again p repeated none some few comes =
    rw repeated (rw none (rw (range-first p.players p.moves some few) (rw comes refl)))

pub left-lost : (p : Progress) → p.joins ≡ 0 → p.moves ≤ p.players → IsLost p → left_of p ≡ left_of (with_one_sent p)
unfolding events_left
left-lost p none few lost =
    rw lost.repeated (rw none (rw (range-first p.players p.moves lost.some few) (rw lost.lost refl)))

-- how many joins are left in a frame that was just opened
abbrev pub joins_of : ℕ → ℕ → ℕ
joins_of players opened = cond (eqb opened 0) players 0

-- the events of a frame and those after it, in the parts in which they are given
pub frame-parts : (js ps : List Arrival) (later rest : List Event)
    → (frame_events (js ++ ps) ++ later) ++ rest ≡ events.Frame ∷ map events.From js ++ (map events.From ps ++ (later ++ rest))
frame-parts js ps later rest =
    ap (λ (es : List Event). (events.Frame ∷ es ++ later) ++ rest) (map-append events.From js ps)
    ∙ ap (λ (es : List Event). events.Frame ∷ es)
    (append_assoc (map events.From js ++ map events.From ps) later rest
    ∙ append_assoc (map events.From js) (map events.From ps) (later ++ rest))

joins-range : (players : ℕ) (first : Bool)
    → cond first (map join_from (ports players)) []
    ≡ map join_from (range_with_len (players - cond first players 0 + 1) (cond first players 0))
joins-range players true = let e : players - players + 1 ≡ 1 = omega arith in rw e refl
joins-range players false = refl

pub left-open : (sending : Sending) (seed players opened frames joins moves : ℕ) (ended : Bool) → joins ≡ 0 → moves ≡ 0 → 0 < frames
    → left_of (place sending seed players opened frames joins moves ended)
    ≡ events.Frame ∷ left_of (place sending seed players (opened + 1) (frames - 1) (joins_of players opened) players ended)
unfolding events_left
left-open sending seed players opened zero joins moves ended no_join no_move some = absurd (omega arith)
left-open sending seed players opened (suc more) joins moves ended no_join no_move some =
    let all = opened + suc more in
    let same : opened + 1 + (suc more - 1) ≡ all = omega arith in
    let less : suc more - 1 ≡ more = omega arith in
    let now : opened + 1 - 1 ≡ opened = omega arith in
    let one : players - players + 1 ≡ 1 = omega arith in
    let js = joins_in players opened in
    let ps = packets_of sending seed players all opened (ports players) in
    let later = flat_map frame_events (map (frame_of sending seed players all) (range_with_len (opened + 1) more)) in
    rw no_join (rw no_move (rw (no_packets sending seed players all (opened - 1)) (rw same (rw less (rw now (rw one
    (frame-parts js ps later (end_unless ended)
    ∙ ap (λ (arrivals : List Arrival). events.Frame ∷ map events.From arrivals ++ (map events.From ps ++ (later ++ end_unless ended))) (joins-range players (eqb opened 0)))))))))

pub left-end : (sending : Sending) (seed players opened frames joins moves : ℕ) → joins ≡ 0 → moves ≡ 0 → frames ≡ 0
    → left_of (place sending seed players opened frames joins moves false) ≡ events.End ∷ left_of (place sending seed players opened frames joins moves true)
unfolding events_left
left-end sending seed players opened frames joins moves no_join no_move no_frame =
    rw no_join (rw no_move (rw no_frame (rw (no_packets sending seed players (opened + 0) (opened - 1)) refl)))

pub left-done : (sending : Sending) (seed players opened frames joins moves : ℕ) → joins ≡ 0 → moves ≡ 0 → frames ≡ 0
    → left_of (place sending seed players opened frames joins moves true) ≡ []
unfolding events_left
left-done sending seed players opened frames joins moves no_join no_move no_frame =
    rw no_join (rw no_move (rw no_frame (rw (no_packets sending seed players (opened + 0) (opened - 1)) refl)))

pub left-start : (sending : Sending) (seed players frames : ℕ)
    → left_of (place sending seed players 0 frames 0 0 false) ≡ recording_events (map (frame_of sending seed players frames) (range_with_len 0 frames))
unfolding events_left
left-start sending seed players frames =
    let all : 0 + frames ≡ frames = omega arith in rw all (rw (no_packets sending seed players frames (0 - 1)) refl)
