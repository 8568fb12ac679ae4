-- Who joins when, and which word is drawn for a move.
use Rattle.std.proofs.Common.{◌≡◌, ℕ, zero, suc, ◌+◌, ◌-◌, ◌*◌, ◌/◌, ◌≤◌, ◌<◌, true, false, [], length, Some, refl, sym, ap, ◌∙◌, arith, ◌++◌, map}
use Rattle.std.specs.Prelude.{min, Contains}
use Rattle.std.specs.List.{range_with_len, slice_get}
use Rattle.std.proofs.lemmas.List.FromFn.{length-map-range_with_len, get_or-map-range_with_len}
use Rattle.std.proofs.lemmas.Option.{slice_get-get_or}
use Rattle.arena_map.specs.Maps.{MapView, is_ready}
use Rattle.packet_read.specs.declared.arrival.Arrival.{Arrival}
use Rattle.demo_make.specs.Words.{word_of, next_state, state_after, word_at}
use Rattle.demo_make.specs.GeneratedFrames.{join_from, move_from, ports}
use Rattle.demo_make.specs.GeneratedFrames as made
use Rattle.demo_make.proofs.Drawing.{next_state-after}
use Rattle.demo_make.proofs.FramesKept.{move-read, join-read, no-joins}
use Rattle.demo_walk.specs.Places.{places_of}
use Rattle.demo_walk.specs.WalkedFrames.{joined_by, joined_before, joins_in, words_before, move_in, moves_in, walked_in, frames_on}
use Rattle.demo_walk.specs.Laws.{EnoughPlacesAreAsMade, JoinsAreKnown, PacketsAreRead}

-- ---- how many have joined

by-more : (players some more : ℕ) → some ≤ more → min players some ≤ min players more
by-more players some more h = omega (arith, h)

turns-more : (all more : ℕ) → all ≤ more → all / 64 ≤ more / 64
turns-more all more h = omega (arith, h)

times-more : (places frame : ℕ) → places * (frame + 64) ≤ places * (suc frame + 64)
times-more places frame =
    let e : places * (suc frame + 64) ≡ places * (frame + 64) + places = omega arith in
    omega (arith, e)

pub joined-more : (places players frame : ℕ) → joined_before places players frame ≤ joined_by places players frame
joined-more places players zero = omega arith
joined-more places players (suc frame) =
    by-more players (places * (frame + 64) / 64) (places * (suc frame + 64) / 64)
    (turns-more (places * (frame + 64)) (places * (suc frame + 64)) (times-more places frame))

pub joined-few : (places players frame : ℕ) → joined_by places players frame ≤ players
joined-few places players frame = few players (places * (frame + 64) / 64)
  where
    few : (players n : ℕ) → min players n ≤ players
    few players n = omega arith

enough : (places players frame : ℕ) → 64 * players ≤ places * (frame + 64) → joined_by places players frame ≡ players
enough places players frame h = most (places * (frame + 64)) h
  where
    most : (n : ℕ) → 64 * players ≤ n → min players (n / 64) ≡ players
    most n h = omega (arith, h)

most : (places players frame : ℕ) → 64 * joined_by places players frame ≤ places * (frame + 64)
most places players frame = at (places * (frame + 64))
  where
    at : (n : ℕ) → 64 * min players (n / 64) ≤ n
    at n = omega arith

least : (places players frame n : ℕ) → n ≤ players → 64 * n ≤ places * (frame + 64) → n ≤ joined_by places players frame
least places players frame n few h = at (places * (frame + 64)) h
  where
    at : (k : ℕ) → 64 * n ≤ k → n ≤ min players (k / 64)
    at k h = omega (arith, h, few)

times-least : (places players frame : ℕ) → players ≤ places → 64 * players ≤ places * (frame + 64)
times-least places players frame h =
    let e : places * (frame + 64) ≡ places * frame + places * 64 = omega arith in
    omega (arith, e, h)

pub enough-places : (places players frame : ℕ) → players ≤ places → joined_by places players frame ≡ players
enough-places places players frame h = enough places players frame (times-least places players frame h)

pub first-places : (places players : ℕ) → places ≤ players → joined_by places players 0 ≡ places
first-places places players h =
    let e : places * (0 + 64) / 64 ≡ places = omega arith in
    ap (min players) e ∙ least places players h
  where
    least : (n players : ℕ) → n ≤ players → min players n ≡ n
    least n players h = omega (arith, h)

all-places : (places players frame : ℕ) → players ≤ places → joined_before places players (suc frame) ≡ players
all-places places players frame h = enough-places places players frame h

-- ---- the words

-- a frame is open where a move of it is left
pub some-opened : (places players opened joined moves : ℕ) → joined ≡ joined_before places players opened → 0 < moves → moves ≤ joined
    → 0 < opened
some-opened places players zero joined moves is some few = absurd (omega (arith, is, some, few))
some-opened places players (suc frame) joined moves is some few = omega arith

-- the number of the word of a move, from where the walk is
word-number : (places players opened joined moves : ℕ) → joined ≡ joined_before places players opened → 0 < moves → moves ≤ joined
    → words_before places players opened - moves ≡ words_before places players (opened - 1) + (joined - moves + 1 - 1)
word-number places players zero joined moves is some few = absurd (omega (arith, is, some, few))
word-number places players (suc frame) joined moves is some few =
    let less : suc frame - 1 ≡ frame = omega arith in
    rw less (number (words_before places players frame) (joined_by places players frame) joined moves is some few)
  where
    number : (words by joined moves : ℕ) → joined ≡ by → 0 < moves → moves ≤ joined → words + by - moves ≡ words + (joined - moves + 1 - 1)
    number words by joined moves is some few = omega (arith, is, some, few)

pub word-now : (seed places players opened joined moves : ℕ) → joined ≡ joined_before places players opened → 0 < moves → moves ≤ joined
    → word_of (state_after seed (words_before places players opened - moves))
    ≡ word_at seed (words_before places players (opened - 1) + (joined - moves + 1 - 1))
word-now seed places players opened joined moves is some few =
    ap (word_at seed) (word-number places players opened joined moves is some few)

-- there were at least as many moves as are in the last frame
words-enough : (places players opened joined : ℕ) → joined ≡ joined_before places players opened → joined ≤ words_before places players opened
words-enough places players zero joined is = omega (arith, is)
words-enough places players (suc frame) joined is =
    more (words_before places players frame) (joined_by places players frame) joined is
  where
    more : (words by joined : ℕ) → joined ≡ by → joined ≤ words + by
    more words by joined is = omega (arith, is)

-- after a word one less is left
pub word-next : (seed places players opened joined moves : ℕ) → joined ≡ joined_before places players opened → 0 < moves → moves ≤ joined
    → next_state (state_after seed (words_before places players opened - moves))
    ≡ state_after seed (words_before places players opened - (moves - 1))
word-next seed places players opened joined moves is some few =
    next_state-after seed (words_before places players opened - moves)
    ∙ ap (state_after seed) (one (words_before places players opened) (words-enough places players opened joined is))
  where
    one : (words : ℕ) → joined ≤ words → words - moves + 1 ≡ words - (moves - 1)
    one words enough = omega (arith, enough, some, few)

-- a frame that is opened draws its words next
pub words-open : (seed places players opened : ℕ)
    → state_after seed (words_before places players opened - 0)
    ≡ state_after seed (words_before places players (opened + 1) - joined_by places players opened)
words-open seed places players opened =
    let one : opened + 1 ≡ suc opened = omega arith in
    rw one (ap (state_after seed) (same (words_before places players opened) (joined_by places players opened)))
  where
    same : (words by : ℕ) → words - 0 ≡ words + by - by
    same words by = omega arith

pub joined-open : (places players opened : ℕ) → joined_before places players (opened + 1) ≡ joined_by places players opened
joined-open places players opened = let one : opened + 1 ≡ suc opened = omega arith in rw one refl

-- ---- the frames on a map

module _ (m : MapView) (seed players frames : ℕ) where
  frames-count : is_ready m ≡ true → length (frames_on m seed players frames) ≡ frames
  frames-count ready = rw ready (length-map-range_with_len _ 0 frames)

  frame-at : (frame : ℕ) → is_ready m ≡ true → frame < frames
      → slice_get (frames_on m seed players frames) frame ≡ Some (walked_in seed players (places_of m) frame)
  frame-at frame ready less =
      let walked = walked_in seed players (places_of m) in
      let same : 0 + frame ≡ frame = omega arith in
      let count = length-map-range_with_len walked 0 frames in
      rw ready (slice_get-get_or (map walked (range_with_len 0 frames)) frame [] (omega (arith, count, less))
      ∙ ap (λ arrivals. Some arrivals) (get_or-map-range_with_len walked 0 frames frame frame [] less same))

  no-frames : is_ready m ≡ false → frames_on m seed players frames ≡ []
  no-frames none = rw none refl

-- ---- the packets of a frame

-- the joins of these ports have that of each of them
join-of : (before by port : ℕ) → before < port → port ≤ by
    → Contains (map join_from (range_with_len (before + 1) (by - before))) (join_from port)
join-of before by port above within =
    let place = port - (before + 1) in
    let count = length-map-range_with_len join_from (before + 1) (by - before) in
    let less : place < by - before = omega (arith, above, within) in
    let same : before + 1 + place ≡ port = omega (arith, above) in
    (place, omega (arith, count, less), get_or-map-range_with_len join_from (before + 1) (by - before) place port (join_from port) less same)

move-at : (seed players places frame i : ℕ) → i < joined_by places players frame
    → slice_get (moves_in seed players places frame) i ≡ Some (move_in seed players places frame (i + 1))
move-at seed players places frame i less =
    at (move_in seed players places frame) (joined_by places players frame) less
  where
    at : (f : ℕ → Arrival) (n : ℕ) → i < n → slice_get (map f (ports n)) i ≡ Some (f (i + 1))
    at f n few =
        let count = length-map-range_with_len f 1 n in
        let same : 1 + i ≡ i + 1 = omega arith in
        slice_get-get_or (map f (range_with_len 1 n)) i (f 0) (omega (arith, count, few))
        ∙ ap (λ a. Some a) (get_or-map-range_with_len f 1 n i (i + 1) (f 0) few same)

-- ---- laws

pub joins_are_known : JoinsAreKnown
joins_are_known = record {
  first = λ places players h. enough-places places players 0 h;
  first_few = first-places;
  more = joined-more;
  few = joined-few;
  all = λ places players frame some h. enough places players frame h;
  most = most;
  least = least;
  joins = λ players places frame. omega (
    arith,
    length-map-range_with_len join_from (joined_before places players frame + 1) (joined_by places players frame - joined_before places players frame),
    joined-more places players frame,
  );
  each = λ players places frame port. join-of (joined_before places players frame) (joined_by places players frame) port;
  moves = λ seed players places frame. length-map-range_with_len (move_in seed players places frame) 1 (joined_by places players frame);
  in_turn = move-at;
  frames = frames-count;
  on_map = λ m seed players frames frame ready less. frame-at m seed players frames frame ready less;
  without_spawn = no-frames;
}

pub packets_are_read : PacketsAreRead
packets_are_read = record {
  joins = join-read;
  moves = λ seed players places frame port small. move-read (frame + 1) port (word_at seed (words_before places players frame + (port - 1))) small;
}

-- with places for all, each frame draws a word for each player
words-all : (places players frame : ℕ) → players ≤ places → words_before places players frame ≡ frame * players
words-all places players zero h = omega arith
words-all places players (suc frame) h =
    let e : suc frame * players ≡ frame * players + players = omega arith in
    omega (arith, e, words-all places players frame h, enough-places places players frame h)

moves-as-made : (seed players places frame : ℕ) → players ≤ places → moves_in seed players places frame ≡ made.moves_in seed players frame
moves-as-made seed players places frame h =
    ap (λ n. map (λ port. move_from (frame + 1) port (word_at seed (n + (port - 1)))) (ports (joined_by places players frame))) (words-all places players frame h)
    ∙ ap (λ n. map (made.move_in seed players frame) (ports n)) (enough-places places players frame h)

joins-as-made : (players places frame : ℕ) → players ≤ places → joins_in players places frame ≡ made.joins_in players frame
joins-as-made players places zero h = ap (λ n. map join_from (range_with_len (0 + 1) n)) (less (joined_by places players 0) (enough-places places players 0 h))
  where
    less : (by : ℕ) → by ≡ players → by - 0 ≡ players
    less by is = omega (arith, is)
joins-as-made players places (suc frame) h =
    ap (λ n. map join_from (range_with_len (joined_by places players frame + 1) n))
    (none (joined_by places players (suc frame)) (joined_by places players frame) (enough-places places players (suc frame) h) (enough-places places players frame h))
    ∙ sym (no-joins players (suc frame) (omega arith))
  where
    none : (by before : ℕ) → by ≡ players → before ≡ players → by - before ≡ 0
    none by before one other = omega (arith, one, other)

pub enough_places_are_as_made : EnoughPlacesAreAsMade
enough_places_are_as_made seed players places frame h =
    ap (λ js. js ++ moves_in seed players places frame) (joins-as-made players places frame h)
    ∙ ap (λ ms. made.joins_in players frame ++ ms) (moves-as-made seed players places frame h)
