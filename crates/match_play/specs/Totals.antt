-- What frames come to, in numbers.
use Rattle.std.specs.Prelude.{ℕ, ◌+◌, ◌*◌, ◌≤◌, nat_le, List, [], ◌∷◌, length, sum_by, count_by}
use Rattle.entity_recs.specs.declared.effect.Entry.{Entry}
use Rattle.arena_map.specs.Maps.{MapView}
use Rattle.packet_read.specs.declared.arrival.Arrival.{Arrival}
use Rattle.client_ports.specs.States.{State}
use Rattle.client_ports.specs.Lists.{Lists}
use Rattle.client_ports.specs.Receiving.{Receiving}
use Rattle.plain_server.specs.RecordsById.{opening}
use Rattle.plain_server.specs.Frames.{received_in, state_after, first_of, rest_of, state_played}
use Rattle.frame_phases.specs.Scores.{score_in}
use Rattle.match_play.specs.declared.totals.Totals.{Totals}

-- ---- a frame

-- how many of the ids that an entry got are those of items: the others, below 64, are slots of players that were hit
abbrev pub items_among : List ℕ → ℕ
items_among ids = count_by (λ id. nat_le 64 id) ids

-- how many items the entries of a journal got
abbrev pub items_in : List Entry → ℕ
items_in journal = sum_by (λ (e : Entry). items_among e.reply.got) journal

-- how many players joined, and how many packets were refused
abbrev pub joins_in : Receiving → ℕ
joins_in r = length r.lists.joined

abbrev pub refused_in : Receiving → ℕ
refused_in r = length r.lists.refused

-- a frame has at most 512 joins, refusals and moves
pub record HasFew (lists : Lists) (journal : List Entry) : Type 0 where
  pub joined : length lists.joined ≤ 512
  pub refused : length lists.refused ≤ 512
  pub moves : length journal ≤ 512

-- before the first frame
abbrev pub no_totals : Totals
no_totals = record { frames = 0; joins = 0; moves = 0; refused = 0; items = 0; score = 0 }

-- each frame had few of each: 512 packets, and 8 items a move
pub record AreBounded (t : Totals) : Type 0 where
  pub joins : t.joins ≤ 512 * t.frames
  pub moves : t.moves ≤ 512 * t.frames
  pub refused : t.refused ≤ 512 * t.frames
  pub items : t.items ≤ 4096 * t.frames

-- one frame more
abbrev pub totals_with : Totals → Lists → List Entry → ℕ → Totals
totals_with t lists journal score = record {
  frames = t.frames + 1;
  joins = t.joins + length lists.joined;
  moves = t.moves + length journal;
  refused = t.refused + length lists.refused;
  items = t.items + items_in journal;
  score = score;
}

-- ---- all frames

-- what the packets of each frame came to, where the first has this number
abbrev pub receptions : MapView → ℕ → State → List (List Arrival) → List (List Entry) → List Receiving
receptions map frame state [] journals = []
receptions map frame state (arrivals ∷ frames) journals =
    let r = received_in map frame state arrivals in
    r ∷ receptions map (frame + 1) (state_after map r (first_of journals)) frames (rest_of journals)

-- the totals of frames with these journals, one each: how many frames, joins, moves and refusals there are, how many
-- items the entries got, and the sum of the live players' scores at the end
abbrev pub totals_of : MapView → List (List Arrival) → List (List Entry) → Totals
totals_of map frames journals =
    let played = receptions map 0 (opening map) frames journals in
    record {
      frames = length journals;
      joins = sum_by joins_in played;
      moves = sum_by (λ (j : List Entry). length j) journals;
      refused = sum_by refused_in played;
      items = sum_by items_in journals;
      score = score_in (state_played map 0 (opening map) frames journals).records;
    }
